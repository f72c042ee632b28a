-- `arranging::arrange` meets its contract.
use native.Mathlib.Omega.{arith}
use lib.ListN.{length}
use Rattle.arranging.proofs.OrderLaws.{least_low, ordered_all, ordered_stuck, ordering_more, ordering_none}
use Rattle.arranging.specs.Hands.{both}
use Rattle.arranging.proofs.arrange.Goals as goal

pub loop-place-init : goal.loop-place-init
loop-place-init c =
    let a = c.args in
    ordering_none (both a.hands) _ _

pub shape_of-marks-then-n-eq0 : goal.shape_of-marks-then-n-eq0
shape_of-marks-then-n-eq0 c = c.loop-place.invariant.kept

pub returns-then-n-eq0 : goal.returns-then-n-eq0
returns-then-n-eq0 c =
    let a = c.args in
    let l = c.loop-place in
    ordered_stuck (both a.hands) _ _ _ _ l.place-index l.invariant _ c.next-n.ensures (omega (arith, l.invariant.size)) c.if-n-eq0.true

pub offset_bounds-marks-n : goal.offset_bounds-marks-n
offset_bounds-marks-n c =
    let a = c.args in
    let l = c.loop-place in
    let e = c.next-n.ensures in
    omega (arith, e, least_low (both a.hands) l.marks (length l.marks), c.if-n-eq0.false)

pub bounds-marks-n : goal.bounds-marks-n
bounds-marks-n c =
    let a = c.args in
    let l = c.loop-place in
    let e = c.next-n.ensures in
    omega (arith, e, least_low (both a.hands) l.marks (length l.marks), c.if-n-eq0.false)

pub loop-place-preserved : goal.loop-place-preserved
loop-place-preserved c =
    let a = c.args in
    let l = c.loop-place in
    ordering_more (both a.hands) _ _ _ _ l.place-index l.invariant _ c.next-n.ensures (omega (arith, l.invariant.size)) c.if-n-eq0.false _ c.placed_mark.ensures

pub shape_of-marks : goal.shape_of-marks
shape_of-marks c = c.loop-place.invariant.kept

pub shape_of-order : goal.shape_of-order
shape_of-order c = c.loop-place.invariant.size

pub returns : goal.returns
returns c =
    let a = c.args in
    let l = c.loop-place in
    ordered_all (both a.hands) _ _ _ _ l.place-index l.invariant (omega arith)
