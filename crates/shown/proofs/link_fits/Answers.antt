-- `shown::link_fits` meets its contract.
use mathlib.Core.Path.{ap, ◌∙◌}
use Rattle.scene.specs.Types.{is_surface}
use Rattle.shown.proofs.FitLaws.{link_by_type, link_none}
use Rattle.table.proofs.QuestionLaws.{type_field}
use Rattle.table.specs.View.{view_of}
use Rattle.shown.proofs.link_fits.Goals as goal

pub returns-then-m-eq0 : goal.returns-then-m-eq0
returns-then-m-eq0 c = let a = c.args in link_none (view_of a.records.now) a.m c.if-m-eq0.true

pub returns : goal.returns
returns c =
    let a = c.args in
    link_by_type (view_of a.records.now) a.m c.if-m-eq0.false (c.is_surface.ensures ∙ ap is_surface (c.field.ensures ∙ type_field a.records.now a.m))
