-- `content::same_but_links` meets its contract.
use mathlib.Core.Path.{◌∙◌}
use borrow.Author.Tests.{ne_eqb}
use Rattle.scene.specs.Record.{record_in}
use Rattle.content.proofs.ContentLaws.{kinds_differ, kinds_agree}
use Rattle.content.proofs.same_but_links.Goals as goal

pub returns-then-number : goal.returns-then-number
unfolding record_in
returns-then-number c =
    let a = c.args in
    kinds_agree a.a.text.now a.a.records.now a.m a.b.text.now a.b.records.now a.n _ _ _ c.number.ensures c.number-2.ensures c.if-number.true c.same_strings.ensures

pub returns-else-number : goal.returns-else-number
unfolding record_in
returns-else-number c =
    let a = c.args in
    ne_eqb _ _ c.if-number.false ∙ kinds_differ a.a.text.now a.a.records.now a.m a.b.text.now a.b.records.now a.n _ _ c.number.ensures c.number-2.ensures c.if-number.false
