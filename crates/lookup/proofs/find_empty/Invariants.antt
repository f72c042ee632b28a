use mathlib.Core.List.{[]}
use mathlib.Core.Path.{◌≡◌}
use Rattle.lookup.specs.Lookup.{latest_in}
use Rattle.lookup.proofs.find_empty.Given as goal

abbrev pub invariant-loop-n : goal.invariant-loop-n
invariant-loop-n l = latest_in l.text l.records [] l.count ≡ latest_in l.text l.records [] l.n
