-- `finish::name_refusal` meets its contract.
use Rattle.std.proofs.Common.{◌≡◌, Ok, Err, ap, ◌∙◌, rules}
use Rattle.finish.proofs.QuestionLaws.{refusal_first, refusal_test}
use Rattle.table.proofs.RefusalLaws.{refused_number, taken_number}
use Rattle.table.specs.Question.{refusal_number}
use Rattle.finish.proofs.name_refusal.Goals as goal

pub returns-in_err-number_refusal : goal.returns-in_err-number_refusal
returns-in_err-number_refusal c =
    let a = c.args in
    let reason = c.in_err-number_refusal.field-0.0 in
    let refused : c.number_refusal.result ≡ Err reason = search rules in
    let handed : c.from_residual.result ≡ Err reason = search rules in
    let known = refused_number c.number_refusal.result reason _ refused c.number_refusal.ensures in
    ap refusal_number handed ∙ known.0 ∙ refusal_first a.text.now a.records.now a.count a.number known.1

pub returns : goal.returns
returns c =
    let a = c.args in
    let taken : c.number_refusal.result ≡ Ok c.in_ok-number_refusal.field-0 = search rules in
    c.name_test.ensures ∙ refusal_test a.text.now a.records.now a.count a.number _ _ (taken_number c.number_refusal.result _ _ taken c.number_refusal.ensures) c.field-place.ensures c.field-len.ensures
