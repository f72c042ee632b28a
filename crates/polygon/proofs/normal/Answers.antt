-- `polygon::normal` meets its contract.
use Prim.Native.Nat.{◌*◌}
use native.Mathlib.Omega.{arith}
use lib.ListN.{length-drop}
use Rattle.polygon.proofs.EdgeLaws.{adds_first, adds_last, adds_more, corners_end}
use Rattle.polygon.proofs.normal.Goals as goal

pub loop-i-init : goal.loop-i-init
loop-i-init c =
    let pre = c.requires in
    let a = c.args in
    let at-corner = c.corner-first in
    let at-corner2 = c.corner-from in
    let at-cross-of = c.cross_of-n in
    (adds_first a.reals.now at-corner.result at-corner2.result _ at-corner.ensures at-corner2.ensures at-cross-of.ensures, omega (arith, pre))

pub corner-to-requires : goal.corner-to-requires
corner-to-requires c = omega (arith, c.loop-i-test.true)

pub loop-i-preserved : goal.loop-i-preserved
loop-i-preserved c =
    let a = c.args in
    let at-corner = c.corner-first in
    let at-loop = c.loop-i in
    let at-loop-test = c.loop-i-test in
    let at-corner3 = c.corner-to in
    let at-cross-of2 = c.cross_of in
    let at-sum-of = c.sum_of-n in
    (adds_more a.reals.now at-corner.result at-loop.from at-corner3.result at-loop.n _ _ at-loop.i at-loop.invariant.0 at-corner3.ensures at-cross-of2.ensures at-sum-of.ensures, omega (arith, at-loop-test.true))

pub returns : goal.returns
returns c =
    let a = c.args in
    let at-corner = c.corner-first in
    let at-loop = c.loop-i in
    let at-loop-test = c.loop-i-test in
    let at-cross-of3 = c.cross_of-2 in
    let at-sum-of2 = c.sum_of in
    adds_last a.reals.now at-corner.result at-loop.from at-loop.n _ _ at-loop.i at-loop.invariant.0 (corners_end a.reals.now at-loop.i (omega (arith, at-loop-test.false, length-drop (at-loop.i * 3) a.reals.now))) at-cross-of3.ensures at-sum-of2.ensures
