use mathlib.Core.Path.{◌≡◌}
use Prim.Native.Nat.{◌-◌}
use lib.ListN.{length, drop}
use Rattle.ordered.specs.Lent.{lent}
use Rattle.ordered.specs.Lines.{numbers_of, lines}
use Rattle.ordered.proofs.next_line.Given as goal

abbrev pub invariant-loop-m : goal.invariant-loop-m
invariant-loop-m l =
    let left = lent l.left in
    let right = lent l.right in
    lines left right (drop l.i (numbers_of left)) (drop l.j (numbers_of right)) ≡ lines left right (drop l.initial.i (numbers_of left)) (drop l.initial.j (numbers_of right))

abbrev pub decreases-loop-m : goal.decreases-loop-m
decreases-loop-m l = length l.left.order.now - l.i
