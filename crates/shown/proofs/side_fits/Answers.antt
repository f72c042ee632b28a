-- `shown::side_fits` meets its contract.
use mathlib.Core.Path.{ap, ◌∙◌}
use native.Mathlib.Omega.{arith}
use Rattle.scene.specs.Types.{is_surface}
use Rattle.shown.proofs.FitLaws.{side_by_type, side_none, side_other, side_over}
use Rattle.table.proofs.QuestionLaws.{type_field}
use Rattle.table.specs.View.{view_of}
use Rattle.shown.proofs.side_fits.Goals as goal

pub returns-then-m-eq0 : goal.returns-then-m-eq0
returns-then-m-eq0 c = let a = c.args in side_none (view_of a.records.now) a.m a.count a.n c.if-m-eq0.true

pub returns-then-count-m : goal.returns-then-count-m
returns-then-count-m c = let a = c.args in side_over (view_of a.records.now) a.m a.count a.n c.if-m-eq0.false (omega arith)

pub returns-then-field-ne-MIXFUNC : goal.returns-then-field-ne-MIXFUNC
returns-then-field-ne-MIXFUNC c =
    let a = c.args in
    side_other (view_of a.records.now) a.m a.count a.n c.if-m-eq0.false (omega arith) (c.field.ensures ∙ type_field a.records.now a.n) c.if-field-ne-MIXFUNC.true

pub returns : goal.returns
returns c =
    let a = c.args in
    side_by_type (view_of a.records.now) a.m a.count a.n c.if-m-eq0.false (omega arith) (c.field.ensures ∙ type_field a.records.now a.n) c.if-field-ne-MIXFUNC.false (c.is_surface.ensures ∙ ap is_surface (c.field-2.ensures ∙ type_field a.records.now a.m))
