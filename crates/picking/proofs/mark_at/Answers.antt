-- `picking::mark_at` meets its contract.
use mathlib.Core.Path.{refl}
use native.Mathlib.Omega.{arith}
use Rattle.picking.proofs.PickingLaws.{marked_left, marked_right}
use Rattle.picking.proofs.mark_at.Goals as goal

pub returns-then-n-split : goal.returns-then-n-split
returns-then-n-split c =
    let a = c.args in
    marked_right a.left_right.now a.left_base.now a.right_base.now a.right_left.now a.n c.if-n-split.true _ c.choice_right-choice.ensures _ (c.mark_of.ensures.right refl)

pub returns : goal.returns
returns c =
    let a = c.args in
    marked_left a.left_right.now a.left_base.now a.right_base.now a.right_left.now a.n (omega (arith, c.if-n-split.false)) _ c.choice_left-choice.ensures _ (c.mark_of-2.ensures.left refl)
