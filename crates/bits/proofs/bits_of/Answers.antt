-- `bits::bits_of` meets its contract.
use Rattle.std.proofs.Common.{sym, ◌∙◌}
use Rattle.bits.proofs.BitsLaws.{nan_bits}
use Rattle.bits.proofs.bits_of.Goals as goal

pub returns-then-is_nan : goal.returns-then-is_nan
returns-then-is_nan c = nan_bits _ (sym c.is_nan.ensures.value ∙ c.if-is_nan.true)
