-- `joiner::read_proposed` meets its contract.
use mathlib.Core.Bool.{true}
use mathlib.Core.Path.{refl}
use Rattle.join_answer.proofs.AnswerLaws.{refuses}
use Rattle.joiner.proofs.ReadLaws.{read_refused, read_settled}
use Rattle.joiner.proofs.read_proposed.Goals as goal

pub returns-in-Err : goal.returns-in-Err
returns-in-Err c =
    let a = c.args in
    let e = c.refuse.ensures in
    read_refused a.mode a.text.now a.records.now a.reals.now a.out.now (λ d. true) _ _ (rw c.in-Err.is at c.read_with_own_tables.ensures) (refuses _ e.value e.records_after e.reals_after e.out_after)

pub returns-in-Ok : goal.returns-in-Ok
returns-in-Ok c =
    let a = c.args in
    read_settled a.mode a.text.now a.records.now a.reals.now a.out.now (λ d. true) _ _ (rw c.in-Ok.is at c.read_with_own_tables.ensures) (λ es e. refl) c.settle.ensures
