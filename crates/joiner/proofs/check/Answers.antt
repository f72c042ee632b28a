-- `joiner::check` meets its contract.
use mathlib.Core.Path.{refl, sym}
use Prim.Native.Nat.{◌≤◌}
use native.Mathlib.Omega.{arith}
use lib.Seq.{length-take-le}
use Rattle.join_answer.proofs.AnswerLaws.{refuses}
use Rattle.joiner.proofs.OrderLaws.{checks_order, checks_refused}
use Rattle.joiner.proofs.check.Goals as goal

pub slice_bounds-check_order-end : goal.slice_bounds-check_order-end
slice_bounds-check_order-end c =
    let l : c.min-end.result ≤ 2048 = omega (arith, c.min-end.ensures) in
    sym (length-take-le _ _ (omega (arith, l, c.plan-planned.ensures.size)))

pub returns-in-Err : goal.returns-in-Err
returns-in-Err c =
    let a = c.args in
    let e = c.refuse.ensures in
    checks_refused a.mode a.base.now a.left.now a.right.now a.records.now a.reals.now a.out.now c.plan-planned.result.order a.typed.now _ _ _ (rw c.in-Err.is at c.plan-planned.ensures) (refuses _ e.value e.records_after e.reals_after e.out_after)

pub returns-in-Ok : goal.returns-in-Ok
returns-in-Ok c =
    let a = c.args in
    checks_order a.mode a.base.now a.left.now a.right.now a.records.now a.reals.now a.out.now c.plan-planned.result.order _ (rw c.in-Ok.is at c.plan-planned.ensures) _ c.min-end.ensures _ refl a.typed.now c.check_order.ensures
