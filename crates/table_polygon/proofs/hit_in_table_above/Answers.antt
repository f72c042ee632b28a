-- `table_polygon::hit_in_table_above` meets its contract.
use mathlib.Core.Path.{◌∙◌, refl}
use Rattle.std.proofs.lemmas.Result.{err_from_is_err_and}
use Rattle.table.proofs.RefusalLaws.{reason_above}
use Rattle.table_polygon.proofs.TableLaws.{hit_asked, hit_refused}
use Rattle.table_polygon.proofs.hit_in_table_above.Goals as goal

pub returns-in_err-polygon_refusal : goal.returns-in_err-polygon_refusal
returns-in_err-polygon_refusal c =
    let a = c.args in
    let p = err_from_is_err_and c.from_residual.result c.from_residual.ensures.1 in
    rw (p.1, p.2) (hit_refused a.least a.ray a.records.now a.count a.number a.reals.now _ c.in_err-polygon_refusal.ensures (reason_above c.in_err-polygon_refusal.field-0.0))

pub returns : goal.returns
returns c =
    let a = c.args in
    c.polygon_hit_above.ensures
    ∙ hit_asked a.least a.ray a.records.now a.count a.number a.reals.now 0 c.in_ok-polygon_refusal.ensures refl _ c.reals_of.ensures
