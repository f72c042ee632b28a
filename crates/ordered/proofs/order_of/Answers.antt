-- `ordered::order_of` meets its contract.
use Rattle.ordered.proofs.TurnLaws.{left_lower, right_lower, by_nth}
use Rattle.ordered.specs.Lent.{lent}
use Rattle.ordered.specs.Lines.{key_by}
use Rattle.ordered.proofs.order_of.Goals as goal

pub returns-then-lower : goal.returns-then-lower
returns-then-lower c =
    let a = c.args in
    left_lower (key_by (lent a.left) a.m) (key_by (lent a.right) a.n) _ _ c.key_name-a.ensures c.key_name-b.ensures _ c.lower.ensures c.if-lower.true

pub returns-then-lower-2 : goal.returns-then-lower-2
returns-then-lower-2 c =
    let a = c.args in
    right_lower (key_by (lent a.left) a.m) (key_by (lent a.right) a.n) _ _ c.key_name-a.ensures c.key_name-b.ensures _ c.lower.ensures c.if-lower.false _ c.lower-2.ensures c.if-lower-2.true

pub returns : goal.returns
returns c =
    let a = c.args in
    by_nth (key_by (lent a.left) a.m) (key_by (lent a.right) a.n) _ _ c.key_name-a.ensures c.key_name-b.ensures _ c.lower.ensures c.if-lower.false _ c.lower-2.ensures c.if-lower-2.false _ _ c.nth_of-i.ensures c.nth_of-j.ensures _ c.cmp.ensures
