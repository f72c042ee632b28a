-- `content::same_strings` meets its contract.
use Rattle.scene.specs.Record.{record_in}
use Rattle.content.proofs.ContentLaws.{strings_count, strings_words}
use Rattle.content.proofs.same_strings.Goals as goal

pub returns-then-many-number : goal.returns-then-many-number
unfolding record_in
returns-then-many-number c =
    let a = c.args in
    strings_count a.a.text.now a.a.records.now a.m a.b.text.now a.b.records.now a.n _ _ c.number-many.ensures c.number.ensures c.if-many-number.true

pub returns : goal.returns
unfolding record_in
returns c =
    let a = c.args in
    strings_words a.a.text.now a.a.records.now a.m a.b.text.now a.b.records.now a.n _ _ c.number-many.ensures c.number.ensures _ _ _ c.if-many-number.false c.number-i.ensures c.number-j.ensures c.same_words.ensures
