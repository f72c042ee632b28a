-- `table_polygon::polygon_refusal` meets its contract.
use mathlib.Core.Path.{◌∙◌, sym}
use Rattle.std.proofs.lemmas.Result.{err_from_is_err_and}
use Rattle.table.proofs.RefusalLaws.{reason_above}
use Rattle.table_polygon.proofs.TableLaws.{refusal_corners, refusal_number}
use Rattle.table_polygon.proofs.polygon_refusal.Goals as goal

pub returns-in_err-number_refusal : goal.returns-in_err-number_refusal
returns-in_err-number_refusal c =
    let a = c.args in
    let p = err_from_is_err_and c.from_residual.result c.from_residual.ensures.1 in
    rw (p.1, p.2) (c.in_err-number_refusal.ensures ∙ refusal_number a.records.now a.count a.number a.lent (λ z. reason_above c.in_err-number_refusal.field-0.0 (c.in_err-number_refusal.ensures ∙ z)))

pub returns : goal.returns
returns c =
    let a = c.args in
    c.corners_test.ensures
    ∙ refusal_corners a.records.now a.count a.number a.lent (sym c.in_ok-number_refusal.ensures) _ _ _ c.field.ensures c.field-2.ensures c.field-3.ensures
