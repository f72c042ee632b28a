-- `numeral_scan::numeral_from` meets its contract: the pieces that were read join to a numeral.
use Rattle.std.proofs.Common.{ℕ, ◌-◌, sym, ap, ◌∙◌, arith}
use Rattle.numeral_scan.proofs.ScanLaws.{numeral_read}
use Rattle.numeral_scan.proofs.numeral_from.Goals as goal

pub overflow_add-point : goal.overflow_add-point
overflow_add-point c = omega arith

pub returns : goal.returns
returns c = numeral_read _ _ _ _ _ _ _ c.past-first.ensures c.row_at-whole.ensures c.fraction_at-all.ensures (c.saturating_sub-behind.ensures ∙ ap (λ (n : ℕ). n - 1) c.saturating_sub.ensures) c.if-point-first-eq0.false c.in_ok-power.ensures (sym c.ends_word.ensures ∙ c.if-not-ends_word.false) _ c.has-negative.ensures _ c.in_ok-value.ensures
