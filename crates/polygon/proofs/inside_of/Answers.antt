-- `polygon::inside_of` meets its contract.
use mathlib.Core.List.{[]}
use mathlib.Core.Path.{◌≡◌}
use Prim.Native.Nat.{◌*◌}
use native.Mathlib.Omega.{arith}
use lib.ListN.{drop, length-drop}
use Rattle.polygon.proofs.EdgeLaws.{corners_end, crosses_first, crosses_last, crosses_last_not, crosses_more, crosses_not, flipped}
use Rattle.edges.specs.Code.{axis_of}
use Rattle.edges.specs.Corners.{corners_of}
use Rattle.polygon.proofs.inside_of.Goals as goal
use Rattle.polygon.proofs.inside_of.Goals.{After-loop-i}

pub loop-i-init : goal.loop-i-init
loop-i-init c =
    let pre = c.requires in
    let a = c.args in
    let at-corner = c.corner-first in
    (crosses_first (axis_of a.a) a.p a.reals.now at-corner.result at-corner.ensures, omega (arith, pre))

pub corner-to-requires : goal.corner-to-requires
corner-to-requires c = omega (arith, c.loop-i-test.true)

pub returns-in_err-odd : goal.returns-in_err-odd
returns-in_err-odd c =
    let a = c.args in
    rw c.from_residual.ensures (crosses_not (axis_of a.a) a.p a.reals.now c.corner-first.result c.loop-i.from c.corner-to.result c.loop-i.odd c.loop-i.i c.loop-i.invariant.0 c.corner-to.ensures c.in_err-odd.ensures)

pub loop-i-preserved : goal.loop-i-preserved
loop-i-preserved c =
    let a = c.args in
    (crosses_more (axis_of a.a) a.p a.reals.now c.corner-first.result c.loop-i.from c.corner-to.result c.loop-i.odd c.in_ok-odd.field-0 _ c.loop-i.i c.loop-i.invariant.0 c.corner-to.ensures c.in_ok-odd.ensures (flipped c.loop-i.odd c.in_ok-odd.field-0), omega (arith, c.loop-i-test.true))

past : (c : After-loop-i) → corners_of (drop (c.loop-i.i * 3) c.args.reals.now) ≡ []
past c = corners_end c.args.reals.now c.loop-i.i (omega (arith, c.loop-i-test.false, length-drop (c.loop-i.i * 3) c.args.reals.now))

pub returns-in_err-crossed_edge : goal.returns-in_err-crossed_edge
returns-in_err-crossed_edge c =
    let a = c.args in
    rw c.from_residual-in_err-crossed_edge.ensures (crosses_last_not (axis_of a.a) a.p a.reals.now c.corner-first.result c.loop-i.from c.loop-i.odd c.loop-i.i c.loop-i.invariant.0 (past (goal.at.returns-in_err-crossed_edge c).After-loop-i) c.in_err-crossed_edge.ensures)

pub returns : goal.returns
returns c =
    let a = c.args in
    crosses_last (axis_of a.a) a.p a.reals.now c.corner-first.result c.loop-i.from c.loop-i.odd c.in_ok-crossed_edge.field-0 _ c.loop-i.i c.loop-i.invariant.0 (past (goal.at.returns c).After-loop-i) c.in_ok-crossed_edge.ensures (flipped c.loop-i.odd c.in_ok-crossed_edge.field-0)
