use mathlib.Core.Path.{◌≡◌}
use Rattle.arranging.specs.Hands.{both}
use Rattle.arranging.specs.Order.{least_to}
use Rattle.arranging.proofs.Hands.next.Given as goal

abbrev pub invariant-loop-i : goal.invariant-loop-i
invariant-loop-i l = l.best ≡ least_to (both l.self) l.marks l.i
