-- `lexer::checked_word` meets its contract: the run of good bytes is the word, or its end is looked for once more.
use mathlib.Core.Path.{sym, ap, ◌∙◌}
use native.Mathlib.Omega.{arith}
use Rattle.laws.proofs.RunLaws.{past_least, past_most}
use Rattle.lexer.proofs.CheckedLaws.{good_word, other_word}
use Rattle.lexer.specs.Class.{is_blank, is_good, is_other}
use Rattle.lexer.specs.Word.{word_fault}
use Rattle.lexer.proofs.checked_word.Goals as goal

pub overflow_sub-len : goal.overflow_sub-len
overflow_sub-len c =
    let a = c.args in
    omega (arith, c.skip_blanks-place.ensures, c.good_end-end.ensures, past_least is_good a.text.now c.skip_blanks-place.result, past_most is_blank a.text.now a.at)

pub returns-then-ends_word : goal.returns-then-ends_word
returns-then-ends_word c =
    let a = c.args in
    good_word a.text.now a.at _ c.skip_blanks-place.ensures _ _ c.good_end-end.ensures (sym c.ends_word.ensures ∙ c.if-ends_word.true) c.long_fault.ensures

pub overflow_sub-len-2 : goal.overflow_sub-len-2
overflow_sub-len-2 c =
    let a = c.args in
    omega (arith, c.skip_blanks-place.ensures, c.word_end.ensures, past_least is_other a.text.now c.skip_blanks-place.result, past_most is_blank a.text.now a.at)

pub returns : goal.returns
returns c =
    let a = c.args in
    other_word a.text.now a.at _ c.skip_blanks-place.ensures _ _ c.word_end.ensures (c.word_fault.ensures ∙ ap word_fault c.part.ensures)
