-- `word_scan::real` meets its contract.
use Rattle.std.proofs.Common.{◌+◌, arith}
use Rattle.word_scan.proofs.PassLaws.{line_most, real_passes}
use Rattle.word_scan.proofs.real.Goals as goal

pub overflow_sub-end : goal.overflow_sub-end
overflow_sub-end c = omega (arith, c.in_ok-scanned.ensures.some_bytes)

pub overflow_add-result : goal.overflow_add-result
overflow_add-result c = omega (arith, c.in_ok-scanned.ensures.within)

pub overflow_add-result-2 : goal.overflow_add-result-2
overflow_add-result-2 c = omega (arith, c.skip-gap.ensures.lines_value, c.line_ends.ensures, line_most c.args.text.now c.skip-gap.result.place, line_most c.args.text.now (c.in_ok-scanned.scanned.end + 1))

pub returns : goal.returns
returns c = real_passes c.args.text.now c.args.at _ c.skip-gap.ensures.place_value c.in_ok-scanned.scanned c.in_ok-scanned.ensures c.if-end-gap-gt64.false _ _ c.skip-gap.ensures.lines_value c.line_ends.ensures
