-- `record_text::put_primitive` meets its contract.
use mathlib.Core.List.{[], ◌∷◌, ◌++◌}
use mathlib.Core.Path.{ap, ◌∙◌}
use Rattle.laws.specs.Bytes.{Bytes}
use Rattle.lines.proofs.PutsLaws.{puts_more, puts_as}
use Rattle.lines.specs.Arguments.{argument_lines}
use Rattle.scene.specs.Reading.{newline}
use Rattle.scene.specs.Record.{name_in, record_in}
use Rattle.scene.specs.Types.{type_name}
use Rattle.table.proofs.QuestionLaws.{type_field, name_field, strings_field, reals_field}
use Rattle.tidying.specs.Tidy.{spaced}
use Rattle.record_text.specs.RecordText.{modifier_word}
use Rattle.record_text.proofs.put_primitive.Goals as goal

pub returns : goal.returns
returns c =
    let a = c.args in
    let text = a.text.now in
    let table = a.records.now in
    let r = record_in table a.n in
    let head : Bytes → Bytes = λ kind. modifier_word text table a.n ++ spaced (kind ∷ name_in text table a.n ∷ []) in
    let kind-is = c.type_name-kind.ensures ∙ ap type_name (c.field.ensures ∙ type_field table a.n) in
    let name_is = c.field-name.ensures ∙ name_field table a.n in
    let strings_are = c.field-strings.ensures ∙ strings_field table a.n in
    let reals_are = c.field-reals.ensures ∙ reals_field table a.n in
    puts_more (head (type_name r.type) ++ newline) (argument_lines text r.name r.strings r.reals)
    (puts_more (head (type_name r.type)) newline (puts_as _ (ap head kind-is) c.put_head-behind_head.ensures) c.put-behind_line.ensures)
    (puts_as _ (λ i. argument_lines text (name_is i) (strings_are i) (reals_are i)) c.put_arguments.ensures)
