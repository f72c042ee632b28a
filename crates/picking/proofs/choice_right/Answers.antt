-- `picking::choice_right` meets its contract.
use mathlib.Core.Path.{refl}
use Rattle.picking.proofs.PickingLaws.{right_alone, right_shared}
use Rattle.picking.proofs.choice_right.Goals as goal

pub returns-then-other-eq0 : goal.returns-then-other-eq0
returns-then-other-eq0 c =
    let a = c.args in
    right_alone a.left_right.now a.left_base.now a.right_base.now a.right_left.now a.r _ _ c.number_at-other.ensures c.if-other-eq0.true c.number_at-base.ensures _ _ refl c.is_equal.ensures _ c.chosen.ensures

pub returns : goal.returns
returns c =
    let a = c.args in
    right_shared a.left_right.now a.left_base.now a.right_base.now a.right_left.now a.r _ c.number_at-other.ensures c.if-other-eq0.false _ c.choice_left.ensures
