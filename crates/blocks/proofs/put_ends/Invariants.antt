use mathlib.Core.Path.{◌≡◌}
use Rattle.blocks.proofs.CodeLaws.{puts}
use Rattle.blocks.proofs.put_ends.Given as goal

abbrev pub invariant-loop-i : goal.invariant-loop-i
invariant-loop-i l = l.ends ≡ puts l.text l.records l.initial.ends l.i
