-- `numeral_parts::read_exponent` meets its contract: one law for each answer.
use Rattle.std.proofs.Common.{true, false, sym, ◌∙◌}
use borrow.Author.Tests.{eqb-true, eqb-false}
use Rattle.numeral_parts.proofs.PartLaws.{exponent_none, exponent_long, exponent_bad, exponent_good}
use Rattle.numeral_parts.proofs.read_exponent.Goals as goal

pub returns-then-is_empty : goal.returns-then-is_empty
returns-then-is_empty c = exponent_none _ _ c.unsigned-digits.ensures (eqb-true _ 0 (sym c.is_empty.ensures ∙ c.if-is_empty.true))

pub returns-then-digits-gt3 : goal.returns-then-digits-gt3
returns-then-digits-gt3 c = exponent_long _ _ c.unsigned-digits.ensures c.if-digits-gt3.true

pub returns-in_err-size : goal.returns-in_err-size
returns-in_err-size c = c.from_residual.ensures ∙ exponent_bad _ _ c.unsigned-digits.ensures c.in_err-size.ensures

pub returns-then-is_negative : goal.returns-then-is_negative
returns-then-is_negative c = exponent_good _ _ c.unsigned-digits.ensures (eqb-false _ 0 (sym c.is_empty.ensures ∙ c.if-is_empty.false)) c.if-digits-gt3.false _ c.in_ok-size.ensures true (sym c.if-is_negative.true ∙ c.is_negative.ensures)

pub returns-else-is_negative : goal.returns-else-is_negative
returns-else-is_negative c = exponent_good _ _ c.unsigned-digits.ensures (eqb-false _ 0 (sym c.is_empty.ensures ∙ c.if-is_empty.false)) c.if-digits-gt3.false _ c.in_ok-size.ensures false (sym c.if-is_negative.false ∙ c.is_negative.ensures)
