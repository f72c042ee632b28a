-- `numeral::count_of` meets its contract: a row of one to five digits, and no other, is a count.
use Rattle.std.proofs.Common.{sym, ap, ◌∙◌, arith}
use borrow.Author.Tests.{eqb-true, eqb-false}
use Rattle.numeral_parts.proofs.DigitLaws.{short_value}
use Rattle.numeral.proofs.NumeralLaws.{count_none, count_long, count_bad, count_good}
use Rattle.numeral.specs.Count.{counted}
use Rattle.numeral.proofs.count_of.Goals as goal

pub returns-then-is_empty : goal.returns-then-is_empty
returns-then-is_empty c = count_none _ (eqb-true _ 0 (sym c.is_empty.ensures ∙ c.if-is_empty.true))

pub returns-then-word-gt5 : goal.returns-then-word-gt5
returns-then-word-gt5 c = count_long _ c.if-word-gt5.true

pub overflow_cast-result : goal.overflow_cast-result
overflow_cast-result c = omega (arith, (short_value _ 5 c.args.word.now c.if-word-gt5.false (omega arith) c.in_ok-n.ensures).1)

pub returns-in_err-n : goal.returns-in_err-n
returns-in_err-n c = ap counted c.from_residual.ensures ∙ count_bad _ c.in_err-n.ensures

pub returns : goal.returns
returns c = count_good _ (eqb-false _ 0 (sym c.is_empty.ensures ∙ c.if-is_empty.false)) c.if-word-gt5.false _ c.in_ok-n.ensures
