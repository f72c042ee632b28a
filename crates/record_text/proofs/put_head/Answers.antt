-- `record_text::put_head` meets its contract.
use mathlib.Core.List.{◌∷◌, ◌++◌}
use mathlib.Core.Path.{ap, ◌∙◌}
use Rattle.laws.specs.Bytes.{Bytes, byte}
use Rattle.lines.proofs.LineLaws.{spaced_two}
use Rattle.lines.proofs.PutsLaws.{puts_more, puts_as}
use Rattle.scene.specs.Record.{name_in}
use Rattle.table.proofs.QuestionLaws.{modifier_field}
use Rattle.record_text.specs.RecordText.{link_word, modifier_word}
use Rattle.record_text.proofs.put_head.Goals as goal

pub returns : goal.returns
returns c =
    let a = c.args in
    let text = a.text.now in
    let table = a.records.now in
    let modifier = modifier_word text table a.n in
    let kind = a.kind.now in
    let name = name_in text table a.n in
    let modifier_is = c.link_word.ensures ∙ ap (link_word text table) (c.field-link.ensures ∙ modifier_field table a.n) in
    let name_is = ap (λ (w : Bytes). byte " " ∷ w) c.name_of.ensures in
    puts_as _ (spaced_two modifier kind name)
    (puts_more (modifier ++ (byte " " ∷ kind)) (byte " " ∷ name)
    (puts_more modifier (byte " " ∷ kind) (puts_as modifier modifier_is c.put-behind_link.ensures) c.put_spaced-behind_kind.ensures)
    (puts_as _ name_is c.put_spaced.ensures))
