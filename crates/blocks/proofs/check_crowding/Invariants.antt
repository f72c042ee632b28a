use mathlib.Core.Option.{none}
use mathlib.Core.Path.{◌≡◌}
use Rattle.blocks.specs.Code.{crowded_in}
use Rattle.blocks.proofs.check_crowding.Given as goal

abbrev pub invariant-loop-n : goal.invariant-loop-n
invariant-loop-n l = crowded_in l.text l.records l.n ≡ none
