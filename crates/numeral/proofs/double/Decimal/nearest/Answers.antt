-- `numeral::double::Decimal::nearest` meets its contract: 0 has any power, and any other coefficient what is exact.
use Rattle.std.proofs.Common.{ap, ◌∙◌, arith}
use lib.Ieee.{of_bits}
use Rattle.numeral.proofs.TenLaws.{exact_answer, number_zero}
use Rattle.numeral.specs.Numeral.{answer_of}
use Rattle.numeral.proofs.double.Decimal.nearest.Goals as goal

pub returns-then-self-eq0 : goal.returns-then-self-eq0
unfolding of_bits
returns-then-self-eq0 c = number_zero _ _ _ _ _ (omega arith) c.if-self-eq0.true c.signed.ensures

pub returns : goal.returns
returns c = ap answer_of c.ok_or.ensures.value ∙ exact_answer _ _ _ _ _ c.exact.ensures c.if-self-eq0.false
