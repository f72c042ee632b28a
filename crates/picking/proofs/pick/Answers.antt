-- `picking::pick` meets its contract.
use Prim.Native.Nat.{◌+◌, ◌-◌}
use native.Mathlib.Omega.{arith}
use Rattle.picking.proofs.PickingLaws.{mark_low, picking_more, picking_none, picks_all, picks_clash}
use Rattle.picking.specs.Picking.{mark_at}
use Rattle.picking.proofs.pick.Goals as goal

pub loop-i-init : goal.loop-i-init
loop-i-init c =
    let a = c.args in
    picking_none (mark_at a.left_right.now a.left_base.now a.right_left.now a.right_base.now) _

pub returns-then-mark-eq-CLASHES : goal.returns-then-mark-eq-CLASHES
returns-then-mark-eq-CLASHES c =
    let a = c.args in
    let l = c.loop-i in
    picks_clash (mark_at a.left_right.now a.left_base.now a.right_left.now a.right_base.now) _ _ l.count l.i l.invariant _ c.mark_at-mark.ensures c.if-mark-eq-CLASHES.true (omega (arith, l.invariant.table.size)) _

pub overflow_add-count : goal.overflow_add-count
overflow_add-count c =
    let a = c.args in
    let l = c.loop-i in
    omega (arith, l.invariant.few, l.invariant.table.size, mark_low a.left_right.now a.left_base.now a.right_left.now a.right_base.now (l.i + 1))

pub loop-i-preserved : goal.loop-i-preserved
loop-i-preserved c =
    let a = c.args in
    let l = c.loop-i in
    let e = c.mark_at-mark.ensures in
    picking_more (mark_at a.left_right.now a.left_base.now a.right_left.now a.right_base.now) _ _ l.count l.i l.invariant _ e (omega (arith, e, mark_low a.left_right.now a.left_base.now a.right_left.now a.right_base.now (l.i + 1))) c.if-mark-eq-CLASHES.false (omega (arith, l.invariant.table.size))

pub returns : goal.returns
returns c =
    let a = c.args in
    let l = c.loop-i in
    picks_all (mark_at a.left_right.now a.left_base.now a.right_left.now a.right_base.now) _ _ l.count l.i l.invariant (omega arith)
