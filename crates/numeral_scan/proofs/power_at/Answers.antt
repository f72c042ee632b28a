-- `numeral_scan::power_at` meets its contract: an `e` and an exponent behind it, or nothing.
use Rattle.std.proofs.Common.{sym, ◌∙◌, arith}
use Rattle.std.proofs.lemmas.Option.{IfSome_then}
use Rattle.numeral_scan.proofs.PieceLaws.{power_none, power_read, stands_within}
use Rattle.numeral_scan.proofs.power_at.Goals as goal

pub overflow_add-mark : goal.overflow_add-mark
overflow_add-mark c = omega (arith, stands_within _ _ _ (sym c.has.ensures ∙ c.if-has.true))

pub returns-then-has : goal.returns-then-has
returns-then-has c = IfSome_then _ c.exponent_at.ensures (power_read _ _ _ (sym c.has.ensures ∙ c.if-has.true))

pub returns : goal.returns
returns c = power_none _ _ _
