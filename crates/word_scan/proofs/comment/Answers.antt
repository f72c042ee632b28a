-- `word_scan::comment` meets its contract.
use Rattle.std.proofs.Common.{sym, ◌∙◌, ◌+◌, arith}
use Rattle.word_scan.proofs.PassLaws.{comment_end, comment_passes, line_most}
use Rattle.word_scan.proofs.comment.Goals as goal

pub overflow_add-result : goal.overflow_add-result
overflow_add-result c = omega (arith, comment_end c.args.text.now c.args.at _ _ c.skip-gap.ensures.place_value c.in_ok-get.ensures.lookup.3.0 c.line_end-end.ensures)

pub overflow_add-result-2 : goal.overflow_add-result-2
overflow_add-result-2 c = omega (arith, c.skip-gap.ensures.lines_value, c.line_ends.ensures, line_most c.args.text.now c.skip-gap.result.place, line_most c.args.text.now (c.line_end-end.result + 1))

pub returns : goal.returns
returns c = comment_passes c.args.text.now c.args.at _ _ c.skip-gap.ensures.place_value c.in_ok-get.ensures.lookup.3.0 c.line_end-end.ensures (sym (c.in_ok-get.ensures.lookup.3.1 0) ∙ c.if-branch-ne35.false) _ _ c.skip-gap.ensures.lines_value c.line_ends.ensures
