-- `numeral_scan::exponent_at` meets its contract: a row of one to three digits behind the sign, counted up or down.
use Rattle.std.proofs.Common.{true, false, refl, sym, ◌∙◌, add-zero, arith}
use Rattle.numeral_scan.proofs.PieceLaws.{exponent_read}
use Rattle.numeral_scan.proofs.exponent_at.Goals as goal

pub overflow_add-result : goal.overflow_add-result
overflow_add-result c = omega (arith, c.row_at-digits.ensures.small)

pub returns-then-minus : goal.returns-then-minus
returns-then-minus c = exponent_read _ _ _ _ _ c.past-first.ensures c.row_at-digits.ensures true _ _ (sym c.has-minus.ensures ∙ c.if-minus.true) refl refl c.if-n-eq0.false c.if-n-gt3.false

pub returns : goal.returns
returns c = exponent_read _ _ _ _ _ c.past-first.ensures c.row_at-digits.ensures false _ _ (sym c.has-minus.ensures ∙ c.if-minus.false) refl (sym (add-zero _)) c.if-n-eq0.false c.if-n-gt3.false
