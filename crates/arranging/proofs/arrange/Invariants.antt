use Rattle.arranging.proofs.OrderLaws.{Ordering}
use Rattle.arranging.specs.Hands.{both}
use Rattle.arranging.proofs.arrange.Given as goal

abbrev pub invariant-loop-place : goal.invariant-loop-place
invariant-loop-place l = Ordering (both l.hands) l.initial.marks l.initial.order l.marks l.order l.place-index
