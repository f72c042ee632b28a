-- `ordered::turn_at` meets its contract.
use native.Mathlib.Omega.{arith}
use Rattle.ordered.proofs.TurnLaws.{at_end, at_right, at_left, at_both}
use Rattle.ordered.specs.Lent.{lent}
use Rattle.ordered.proofs.turn_at.Goals as goal

pub returns-then-count-j : goal.returns-then-count-j
returns-then-count-j c =
    let a = c.args in
    at_end (lent a.left) (lent a.right) a.i a.j (omega arith) (omega arith)

pub returns-then-count-i : goal.returns-then-count-i
returns-then-count-i c =
    let a = c.args in
    at_right (lent a.left) (lent a.right) a.i a.j (omega arith) (omega arith) _ _ c.number_at-n.ensures c.nth_of.ensures

pub returns-then-count-j-2 : goal.returns-then-count-j-2
returns-then-count-j-2 c =
    let a = c.args in
    at_left (lent a.left) (lent a.right) a.i a.j (omega arith) _ c.number_at-m.ensures (omega arith) _ c.nth_of-then-count-j-2.ensures

pub returns : goal.returns
returns c =
    let a = c.args in
    at_both (lent a.left) (lent a.right) a.i a.j (omega arith) _ c.number_at-m.ensures (omega arith) _ c.number_at-n.ensures _ c.turn_of.ensures
