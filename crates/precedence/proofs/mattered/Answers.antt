-- `precedence::mattered` meets its contract.
use Rattle.std.proofs.Common.{◌≡◌, refl, ap, sym, ◌∙◌, Ok, Err, rules}
use Rattle.precedence.proofs.AnswerLaws.{order_asked, order_refused, ordered_both}
use Rattle.precedence.specs.Answered.{order_answer}
use Rattle.table.proofs.RefusalLaws.{refused_number, taken_number}
use Rattle.precedence.proofs.mattered.Goals as goal

pub returns-in_err-refusal : goal.returns-in_err-refusal
returns-in_err-refusal c =
    let a = c.args in
    let reason = c.in_err-refusal.field-0.0 in
    let refused : c.refusal.result ≡ Err reason = search rules in
    let handed : c.from_residual.result ≡ Err reason = search rules in
    let known = refused_number c.refusal.result reason _ refused c.refusal.ensures in
    ap order_answer handed ∙ order_refused a.text.now a.records.now a.count a.first a.second _ known.0 (λ z. known.1 (sym known.0 ∙ z))

pub between-requires : goal.between-requires
between-requires c =
    let a = c.args in
    let taken : c.refusal.result ≡ Ok c.in_ok-refusal.field-0 = search rules in
    ordered_both a.text.now a.records.now a.count a.first a.second 0 (sym (taken_number c.refusal.result _ _ taken c.refusal.ensures)) refl c.min-upper.ensures c.max-lower.ensures

pub returns : goal.returns
returns c =
    let a = c.args in
    let taken : c.refusal.result ≡ Ok c.in_ok-refusal.field-0 = search rules in
    order_asked a.text.now a.records.now a.count a.first a.second 0 (sym (taken_number c.refusal.result _ _ taken c.refusal.ensures)) refl c.min-upper.ensures c.max-lower.ensures c.between.ensures
