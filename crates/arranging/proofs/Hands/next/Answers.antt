-- `Hands::next` meets its contract.
use mathlib.Core.Path.{◌≡◌, ap, ◌∙◌}
use native.Mathlib.Omega.{arith}
use lib.ListN.{length}
use Rattle.arranging.proofs.OrderLaws.{least_more, least_none, least_passed}
use Rattle.arranging.specs.Hands.{both}
use Rattle.arranging.specs.Order.{least_to}
use Rattle.arranging.proofs.Hands.next.Goals as goal
use Rattle.arranging.proofs.Hands.next.Goals.{then-comes, else-comes}

pub loop-i-init : goal.loop-i-init
loop-i-init c = least_none _ _

pub loop-i-preserved : goal.loop-i-preserved
loop-i-preserved c =
    let a = c.args in
    let l = c.loop-i in
    elim c.if-comes.branch [
      | then-comes w ↦ w.best-is ∙ least_more (both a.self) a.marks.now l.i l.best l.invariant _ c.comes.ensures w.if-comes.true _ w.lesser-best.ensures
      | else-comes w ↦ w.best-is ∙ least_passed (both a.self) a.marks.now l.i l.best l.invariant _ c.comes.ensures w.if-comes.false
    ]

pub returns : goal.returns
returns c =
    let a = c.args in
    let l = c.loop-i in
    l.invariant ∙ ap (least_to (both a.self) a.marks.now) (let z : l.i ≡ length a.marks.now = omega arith in z)
