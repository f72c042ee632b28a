-- `ties::classes` meets its contract.
use native.Mathlib.Omega.{arith}
use Rattle.ties.proofs.ClassLaws.{classed_none, classed_more, classed_all}
use Rattle.ties.proofs.classes.Goals as goal

pub loop-i-init : goal.loop-i-init
loop-i-init c = let a = c.args in classed_none a.text.now a.records.now _

pub loop-i-preserved : goal.loop-i-preserved
loop-i-preserved c =
    let a = c.args in
    classed_more a.text.now a.records.now _ _ c.loop-i.i c.loop-i.invariant _ c.class_of.ensures (omega arith)

pub shape_of-classes : goal.shape_of-classes
shape_of-classes c = c.loop-i.invariant.size

pub returns : goal.returns
returns c =
    let a = c.args in
    classed_all a.text.now a.records.now _ _ c.loop-i.i c.loop-i.invariant (omega arith)
