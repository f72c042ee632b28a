-- `shown::primitive_fits` meets its contract.
use mathlib.Core.Path.{ap, sym, ◌∙◌}
use native.Mathlib.Omega.{arith}
use Rattle.graph.specs.Graph.{graph_of}
use Rattle.scene.specs.Types.{is_type}
use Rattle.shown.proofs.FitLaws.{link_up, links_fit, type_outside}
use Rattle.table.proofs.QuestionLaws.{modifier_field, type_field}
use Rattle.shown.proofs.primitive_fits.Goals as goal

pub returns-then-not-kind : goal.returns-then-not-kind
returns-then-not-kind c =
    let f = c.field-kind in
    let a = c.args in
    type_outside (graph_of a.records.now a.pairs.now) a.count a.n (ap is_type (sym (f.ensures ∙ type_field a.records.now a.n)) ∙ c.if-not-kind.true)

pub returns-then-n-link : goal.returns-then-n-link
returns-then-n-link c =
    let f = c.field-kind in
    let a = c.args in
    link_up (graph_of a.records.now a.pairs.now) a.count a.n (ap is_type (sym (f.ensures ∙ type_field a.records.now a.n)) ∙ c.if-not-kind.false) (c.field-link.ensures ∙ modifier_field a.records.now a.n) (omega arith)

pub returns : goal.returns
returns c =
    let f = c.field-kind in
    let a = c.args in
    links_fit (graph_of a.records.now a.pairs.now) a.count a.n (ap is_type (sym (f.ensures ∙ type_field a.records.now a.n)) ∙ c.if-not-kind.false) (c.field-link.ensures ∙ modifier_field a.records.now a.n) (omega arith) c.link_fits.ensures c.side.ensures c.side_fits.ensures c.side-2.ensures c.side_fits-2.ensures
