-- `numeral::double::Decimal::exact` meets its contract: one law for each answer.
use Rattle.std.proofs.Common.{arith}
use Rattle.numeral.proofs.TenLaws.{too_many, too_high, too_low, number_up, number_down}
use Rattle.numeral.proofs.double.Decimal.exact.Goals as goal

pub returns-then-coefficient-ge-LIMIT : goal.returns-then-coefficient-ge-LIMIT
returns-then-coefficient-ge-LIMIT c = λ z. too_many _ _ _ _ c.if-coefficient-ge-LIMIT.true

pub returns-then-up-down-gt22 : goal.returns-then-up-down-gt22
returns-then-up-down-gt22 c = λ z. too_high _ _ _ _ z c.if-up-down-gt22.true

pub returns-then-down-up : goal.returns-then-down-up
returns-then-down-up c = number_up _ _ _ _ _ c.if-coefficient-ge-LIMIT.false c.if-down-up.true c.if-up-down-gt22.false _ c.times.ensures c.signed.ensures

pub returns-then-down-up-gt22 : goal.returns-then-down-up-gt22
returns-then-down-up-gt22 c = λ z. too_low _ _ _ _ z c.if-down-up-gt22.true

pub returns : goal.returns
returns c = number_down _ _ _ _ _ c.if-coefficient-ge-LIMIT.false (omega arith) c.if-down-up-gt22.false _ c.over.ensures c.signed-2.ensures
