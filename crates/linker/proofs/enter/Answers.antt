use mathlib.Core.Path.{ap, ◌∙◌}
use Rattle.line_numbers.specs.Lines.{line_from}
use Rattle.linker.proofs.TableLaws.{behind_none, behind_one, in_none}
use Rattle.linker.specs.Entered.{entered_at}
use Rattle.statement.specs.States.{clipped}
use Rattle.linker.proofs.enter.Goals as goal

-- src/lib.rt:109:9
pub returns-then-records-count : goal.returns-then-records-count
returns-then-records-count c =
    let a = c.args in
    let at-if1 = c.if-records-count in
    let at-between = c.between in
    let r = (in_none a.text.now a.records.now a.index.now a.t.count a.t.draft (clipped (line_from a.text.now a.records.now a.t.count a.t.draft.name)) at-if1.true).1 in
    record { value = behind_none a.text.now a.records.now a.index.now a.t at-if1.true at-between.ensures; records_after = r.0; index_after = r.1 }

-- src/lib.rt:102:1
pub returns : goal.returns
returns c =
    let a = c.args in
    let at-if1 = c.if-records-count in
    let at-line-of = c.line_of in
    let at-narrow = c.narrow-line in
    let at-enter-row = c.enter_row in
    let at-counted = c.counted-u in
    let at-between2 = c.between-2 in
    record { value = behind_one a.text.now a.records.now a.index.now a.t at-if1.false at-enter-row.ensures.value at-counted.ensures at-between2.ensures; records_after = at-enter-row.ensures.records_after ∙ ap (entered_at a.text.now a.records.now a.index.now a.t.count a.t.draft) (at-narrow.ensures ∙ ap clipped at-line-of.ensures); index_after = at-enter-row.ensures.index_after }
