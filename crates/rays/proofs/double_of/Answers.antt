use Rattle.std.proofs.Common.{rules}
use Rattle.std.proofs.lemmas.Float.{not_nan_f64_bits}
use Rattle.rays.proofs.double_of.Goals as goal

-- a pattern that the test leaves is no NaN's
pub float_from_bits-result : goal.float_from_bits-result
float_from_bits-result c = search (rules, not_nan_f64_bits)
