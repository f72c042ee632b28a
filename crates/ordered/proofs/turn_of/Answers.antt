-- `ordered::turn_of` meets its contract.
use mathlib.Core.Path.{sym, ◌∙◌}
use Rattle.ordered.proofs.TurnLaws.{turn_left, turn_right, turn_same, turn_changed}
use Rattle.ordered.specs.Lent.{lent}
use Rattle.ordered.proofs.turn_of.Goals as goal

pub returns-in-Less : goal.returns-in-Less
returns-in-Less c =
    let a = c.args in
    turn_left (lent a.left) (lent a.right) a.m a.n _ (sym c.in-Less.is ∙ c.order_of.ensures) c.nth_of.ensures

pub returns-in-Greater : goal.returns-in-Greater
returns-in-Greater c =
    let a = c.args in
    turn_right (lent a.left) (lent a.right) a.m a.n _ (sym c.in-Greater.is ∙ c.order_of.ensures) c.nth_of-in-Greater.ensures

pub returns-then-same_content : goal.returns-then-same_content
returns-then-same_content c =
    let a = c.args in
    turn_same (lent a.left) (lent a.right) a.m a.n (sym c.in-Equal.is ∙ c.order_of.ensures) _ c.same_content.ensures c.if-same_content.true

pub returns-else-same_content : goal.returns-else-same_content
returns-else-same_content c =
    let a = c.args in
    turn_changed (lent a.left) (lent a.right) a.m a.n (sym c.in-Equal.is ∙ c.order_of.ensures) _ c.same_content.ensures c.if-same_content.false _ c.nth_of-in-Equal.ensures
