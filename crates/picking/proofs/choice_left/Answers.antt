-- `picking::choice_left` meets its contract.
use Rattle.picking.proofs.PickingLaws.{left_chosen}
use Rattle.picking.proofs.choice_left.Goals as goal

pub returns : goal.returns
returns c =
    let a = c.args in
    left_chosen a.left_right.now a.left_base.now a.right_base.now a.l _ _ c.number_at-other.ensures c.number_at-base.ensures _ _ _ c.is_equal.ensures c.is_equal-2.ensures c.right_kept.ensures _ c.chosen.ensures
