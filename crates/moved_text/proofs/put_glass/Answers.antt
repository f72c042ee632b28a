-- `moved_text::put_glass` meets its contract.
use mathlib.Core.List.{[], ◌∷◌, ◌++◌}
use mathlib.Core.Path.{ap, ◌∙◌}
use Prim.Native.Nat.{ℕ}
use Rattle.laws.specs.Bytes.{bytes}
use Rattle.lines.proofs.PutsLaws.{puts_as, puts_more}
use Rattle.lexer.specs.Word.{behind_words}
use Rattle.record_text.specs.RecordText.{modifier_word}
use Rattle.scene.specs.Record.{name_in, record_in}
use Rattle.scene.specs.Told.{words_from}
use Rattle.table.proofs.QuestionLaws.{name_field}
use Rattle.tidying.specs.Tidy.{spaced}
use Rattle.moved_text.proofs.ChangeLaws.{pieces}
use Rattle.moved_text.specs.MovedText.{glass_text}
use Rattle.moved_text.proofs.put_glass.Goals as goal

pub returns : goal.returns
unfolding glass_text
returns c =
    let a = c.args in
    let text = a.text.now in
    let table = a.records.now in
    let modifier = modifier_word text table a.n in
    let head = spaced (bytes "glass" ∷ name_in text table a.n ∷ []) in
    let lines = bytes "\n0\n0\n" in
    let count = a.count.now in
    let words = spaced (words_from text (behind_words text (record_in table a.n).name 4) 3) in
    let place_is = c.skip_words-real.ensures ∙ ap (λ (k : ℕ). behind_words text k 4) (c.field-name.ensures ∙ name_field table a.n) in
    let words_are = ap (λ (k : ℕ). spaced (words_from text k 3)) place_is in
    puts_as _ (pieces modifier head lines count words a.end.now)
    (puts_more (modifier ++ head ++ lines ++ count ++ words) a.end.now
    (puts_more (modifier ++ head ++ lines ++ count) words
    (puts_more (modifier ++ head ++ lines) count (puts_more (modifier ++ head) lines c.put_head-behind_head.ensures c.put-behind_lines.ensures) c.put-behind_count.ensures)
    (puts_as words words_are c.put_words-behind_words.ensures))
    c.put.ensures)
