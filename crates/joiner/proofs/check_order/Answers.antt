-- `joiner::check_order` meets its contract.
use Rattle.join_answer.proofs.AnswerLaws.{refuses}
use Rattle.joiner.proofs.OrderLaws.{typed_failed, typed_refused, typed_settled}
use Rattle.joiner.proofs.check_order.Goals as goal

pub returns-then-holds : goal.returns-then-holds
returns-then-holds c =
    let a = c.args in
    typed_settled a.mode a.left.now a.right.now a.typed.now a.order.now a.records.now a.reals.now a.out.now _ _ (rw c.in-Ok.is at c.read_with_own_tables.ensures) _ c.holds.ensures c.if-holds.true c.settle.ensures

pub returns-in-Err : goal.returns-in-Err
returns-in-Err c =
    let a = c.args in
    let e = c.refuse.ensures in
    typed_refused a.mode a.left.now a.right.now a.typed.now a.order.now a.records.now a.reals.now a.out.now _ _ (rw c.in-Err.is at c.read_with_own_tables.ensures) (refuses _ e.value e.records_after e.reals_after e.out_after)

pub returns-else-holds : goal.returns-else-holds
returns-else-holds c =
    let a = c.args in
    let e = c.refuse-in-Ok.ensures in
    typed_failed a.mode a.left.now a.right.now a.typed.now a.order.now a.records.now a.reals.now a.out.now _ _ (rw c.in-Ok.is at c.read_with_own_tables.ensures) _ c.holds.ensures c.if-holds.false (refuses _ (rw c.refusal_of.ensures at e.value) e.records_after e.reals_after e.out_after)
