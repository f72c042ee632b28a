-- `moved_text::is_spelled` meets its contract.
use mathlib.Core.Path.{◌∙◌}
use Rattle.laws.specs.Bytes.{bytes, same}
use Rattle.lexer.specs.Word.{behind_words, word_bytes}
use Rattle.table.proofs.QuestionLaws.{name_field}
use Rattle.moved_text.specs.MovedText.{spelled_at}
use Rattle.moved_text.proofs.is_spelled.Goals as goal

pub returns : goal.returns
unfolding spelled_at
returns c =
    let a = c.args in
    let text = a.text.now in
    let name_is = c.field-name.ensures ∙ name_field a.records.now a.n in
    c.same.ensures
    ∙ (λ i. same (c.word_bytes.ensures i) (bytes "1.52"))
    ∙ (λ i. same (word_bytes text (c.skip_words-place.ensures i)) (bytes "1.52"))
    ∙ (λ i. same (word_bytes text (behind_words text (name_is i) 7)) (bytes "1.52"))
