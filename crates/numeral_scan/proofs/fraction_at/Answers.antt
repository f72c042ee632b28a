-- `numeral_scan::fraction_at` meets its contract: a point and a row behind it, or nothing.
use mathlib.Core.Path.{sym, ◌∙◌}
use native.Mathlib.Omega.{arith}
use Rattle.numeral_scan.proofs.PieceLaws.{fraction_none, fraction_read, stands_within}
use Rattle.numeral_scan.proofs.fraction_at.Goals as goal

pub overflow_add-point : goal.overflow_add-point
overflow_add-point c = omega (arith, stands_within _ _ _ (sym c.has.ensures ∙ c.if-has.true))

pub returns-then-has : goal.returns-then-has
returns-then-has c = fraction_read _ _ _ _ (sym c.has.ensures ∙ c.if-has.true) c.row_at.ensures

pub returns : goal.returns
returns c = fraction_none _ _
