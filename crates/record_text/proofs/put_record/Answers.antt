-- `record_text::put_record` meets its contract.
use mathlib.Core.List.{[], ◌∷◌, ◌++◌}
use mathlib.Core.Path.{ap, sym, ◌∙◌}
use Rattle.laws.specs.Bytes.{Bytes, byte, bytes}
use Rattle.lines.proofs.LineLaws.{spaced_more}
use Rattle.lines.proofs.PutsLaws.{puts_more, puts_as}
use Rattle.scene.specs.Reading.{newline}
use Rattle.scene.specs.Record.{name_in, record_in}
use Rattle.table.proofs.QuestionLaws.{target_field}
use Rattle.tidying.specs.Tidy.{spaced}
use Rattle.record_text.proofs.RowLaws.{as_primitive, as_alias}
use Rattle.record_text.specs.RecordText.{modifier_word}
use Rattle.record_text.proofs.put_record.Goals as goal

pub returns-then-target-eq0 : goal.returns-then-target-eq0
returns-then-target-eq0 c =
    let a = c.args in
    let table = a.records.now in
    puts_as _ (as_primitive a.text.now table a.n (sym (c.field-target.ensures ∙ target_field table a.n) ∙ c.if-target-eq0.true)) c.put_primitive.ensures

pub returns : goal.returns
returns c =
    let a = c.args in
    let text = a.text.now in
    let table = a.records.now in
    let modifier = modifier_word text table a.n in
    let head = bytes "alias" ∷ name_in text table a.n ∷ [] in
    let target = name_in text table (record_in table a.n).target in
    let number_is = c.field-target.ensures ∙ target_field table a.n in
    let target_is = ap (λ (w : Bytes). byte " " ∷ w) (c.name_of.ensures ∙ ap (name_in text table) number_is) in
    puts_as _ (ap (λ (x : Bytes). x ++ newline) (spaced_more modifier head target) ∙ as_alias text table a.n (λ z. c.if-target-eq0.false (number_is ∙ z)))
    (puts_more _ newline
    (puts_more (modifier ++ spaced head) (byte " " ∷ target) c.put_head-behind_head.ensures (puts_as _ target_is c.put_spaced-behind_target.ensures))
    c.put.ensures)
