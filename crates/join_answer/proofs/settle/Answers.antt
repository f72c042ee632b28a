-- `join_answer::settle` meets its contract.
use Rattle.join_answer.proofs.AnswerLaws.{refuses, settled_all, settled_short}
use Rattle.join_answer.proofs.settle.Goals as goal

pub returns-then-end : goal.returns-then-end
returns-then-end c =
    let a = c.args in
    let e = c.refuse.ensures in
    settled_short a.text.now a.records.now a.reals.now a.out.now a.count a.doubles c.put-end.ensures c.if-end.true (refuses _ e.value e.records_after e.reals_after e.out_after)

pub returns : goal.returns
returns c =
    let a = c.args in
    settled_all a.text.now a.records.now a.reals.now a.out.now a.count a.doubles c.put-end.ensures c.if-end.false c.clear_from.ensures
