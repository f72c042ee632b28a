-- `word_scan::word` meets its contract: a run of good bytes up to a blank or the text's end is the word.
use Rattle.std.proofs.Common.{sym, ◌∙◌, ◌+◌, arith}
use Rattle.word_scan.proofs.PassLaws.{line_most, run_within, word_passes}
use Rattle.word_scan.proofs.word.Goals as goal

pub overflow_sub-len : goal.overflow_sub-len
overflow_sub-len c = omega (arith, run_within c.args.text.now c.args.at _ _ c.skip-gap.ensures.place_value c.good_end-end.ensures)

pub overflow_add-result : goal.overflow_add-result
overflow_add-result c = omega (arith, run_within c.args.text.now c.args.at _ _ c.skip-gap.ensures.place_value c.good_end-end.ensures)

pub overflow_add-result-2 : goal.overflow_add-result-2
overflow_add-result-2 c = omega (arith, c.skip-gap.ensures.lines_value, c.line_ends.ensures, line_most c.args.text.now c.skip-gap.result.place, line_most c.args.text.now (c.good_end-end.result + 1))

pub returns : goal.returns
returns c = word_passes c.args.text.now c.args.at _ _ c.skip-gap.ensures.place_value c.good_end-end.ensures c.if-len-eq0.false c.if-len-gt64.false (sym c.ends_word.ensures ∙ c.if-not-ends_word.false) _ _ c.skip-gap.ensures.lines_value c.line_ends.ensures
