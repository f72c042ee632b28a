-- `numeral_parts::read_mantissa` meets its contract: one law for each answer.
use Rattle.std.proofs.Common.{ap, ◌∙◌, ◌+◌, length, arith, length-take, length-drop}
use Rattle.numeral_parts.proofs.DigitLaws.{row_value}
use Rattle.numeral_parts.proofs.PartLaws.{index_most, mantissa_empty, mantissa_whole_bad, mantissa_fraction_bad, mantissa_good}
use Rattle.numeral_parts.specs.Read.{either}
use Rattle.numeral_parts.proofs.read_mantissa.Goals as goal

pub overflow_add-point : goal.overflow_add-point
overflow_add-point c = omega (arith, index_most (either 46 46) c.args.word.now, ap length c.behind-fraction.ensures, length-drop (c.index_of-point.result + 1) c.args.word.now)

pub returns-then-point-fraction-eq0 : goal.returns-then-point-fraction-eq0
returns-then-point-fraction-eq0 c = mantissa_empty _ _ _ c.index_of-point.ensures c.behind-fraction.ensures c.if-point-fraction-eq0.true

pub slice_bounds-digits_from-end : goal.slice_bounds-digits_from-end
slice_bounds-digits_from-end c = omega (arith, length-take c.index_of-point.result c.args.word.now, index_most (either 46 46) c.args.word.now)

pub digits_from-requires-2 : goal.digits_from-requires-2
digits_from-requires-2 c = omega (arith, row_value 0 _ _ c.in_ok-whole.ensures)

pub returns-in_err-whole : goal.returns-in_err-whole
returns-in_err-whole c = c.from_residual.ensures ∙ mantissa_whole_bad _ _ _ c.index_of-point.ensures c.behind-fraction.ensures c.in_err-whole.ensures

pub returns-in_err-coefficient : goal.returns-in_err-coefficient
returns-in_err-coefficient c = c.from_residual-in_err-coefficient.ensures ∙ mantissa_fraction_bad _ _ _ c.index_of-point.ensures c.behind-fraction.ensures _ c.in_err-coefficient.ensures

pub returns : goal.returns
returns c = mantissa_good _ _ _ c.index_of-point.ensures c.behind-fraction.ensures c.if-point-fraction-eq0.false _ _ c.in_ok-whole.ensures c.in_ok-coefficient.ensures
