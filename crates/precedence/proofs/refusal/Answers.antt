-- `precedence::refusal` meets its contract.
use mathlib.Core.Bool.{true, false}
use Rattle.std.proofs.Common.{◌≡◌, Ok, Err, ap, refl, sym, ◌∙◌, rules}
use Rattle.precedence.proofs.AnswerLaws.{refused_first, refused_same, refused_second, refused_unfit}
use Rattle.table.proofs.RefusalLaws.{refused_number, taken_number}
use Rattle.table.specs.Question.{refusal_number}
use Rattle.precedence.proofs.refusal.Goals as goal

pub returns-in_err-number_refusal : goal.returns-in_err-number_refusal
returns-in_err-number_refusal c =
    let a = c.args in
    let reason = c.in_err-number_refusal.field-0.0 in
    let refused : c.number_refusal.result ≡ Err reason = search rules in
    let handed : c.from_residual.result ≡ Err reason = search rules in
    let known = refused_number c.number_refusal.result reason _ refused c.number_refusal.ensures in
    ap refusal_number handed ∙ refused_first a.text.now a.records.now a.count a.first a.second _ known.0 (λ z. known.1 (sym known.0 ∙ z))

pub returns-in_err-number_refusal-2 : goal.returns-in_err-number_refusal-2
returns-in_err-number_refusal-2 c =
    let a = c.args in
    let first : c.number_refusal.result ≡ Ok c.in_ok-number_refusal.field-0 = search rules in
    let reason = c.in_err-number_refusal-2.field-0.0 in
    let refused : c.number_refusal-2.result ≡ Err reason = search rules in
    let handed : c.from_residual-in_err-number_refusal-2.result ≡ Err reason = search rules in
    let taken = taken_number c.number_refusal.result _ _ first c.number_refusal.ensures in
    let known = refused_number c.number_refusal-2.result reason _ refused c.number_refusal-2.ensures in
    ap refusal_number handed ∙ refused_second a.text.now a.records.now a.count a.first a.second _ (sym taken) refl _ known.0 (λ z. known.1 (sym known.0 ∙ z))

pub returns-then-first-second : goal.returns-then-first-second
returns-then-first-second c =
    let a = c.args in
    let first : c.number_refusal.result ≡ Ok c.in_ok-number_refusal.field-0 = search rules in
    let second : c.number_refusal-2.result ≡ Ok c.in_ok-number_refusal-2.field-0 = search rules in
    refused_same a.text.now a.records.now a.count a.first a.second _ (sym (taken_number c.number_refusal.result _ _ first c.number_refusal.ensures)) refl _ (sym (taken_number c.number_refusal-2.result _ _ second c.number_refusal-2.ensures)) refl c.if-first-second.true

pub returns-then-all_fit : goal.returns-then-all_fit
returns-then-all_fit c =
    let a = c.args in
    let first : c.number_refusal.result ≡ Ok c.in_ok-number_refusal.field-0 = search rules in
    let second : c.number_refusal-2.result ≡ Ok c.in_ok-number_refusal-2.field-0 = search rules in
    refused_unfit a.text.now a.records.now a.count a.first a.second _ (sym (taken_number c.number_refusal.result _ _ first c.number_refusal.ensures)) refl _ (sym (taken_number c.number_refusal-2.result _ _ second c.number_refusal-2.ensures)) refl c.if-first-second.false true (sym c.if-all_fit.true ∙ c.all_fit.ensures)

pub returns : goal.returns
returns c =
    let a = c.args in
    let first : c.number_refusal.result ≡ Ok c.in_ok-number_refusal.field-0 = search rules in
    let second : c.number_refusal-2.result ≡ Ok c.in_ok-number_refusal-2.field-0 = search rules in
    refused_unfit a.text.now a.records.now a.count a.first a.second _ (sym (taken_number c.number_refusal.result _ _ first c.number_refusal.ensures)) refl _ (sym (taken_number c.number_refusal-2.result _ _ second c.number_refusal-2.ensures)) refl c.if-first-second.false false (sym c.if-all_fit.false ∙ c.all_fit.ensures)
