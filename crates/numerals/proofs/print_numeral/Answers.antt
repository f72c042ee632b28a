use mathlib.Core.Path.{sym, ap, ◌∙◌}
use Rattle.numeral.proofs.FiniteLaws.{numeral_no_nan}
use Rattle.numeral.specs.Numeral.{answer_of}
use Rattle.numerals.proofs.print_numeral.Goals as goal

-- no value is a NaN, so it has bits
pub float_to_bits-bits : goal.float_to_bits-bits
float_to_bits-bits g c = numeral_no_nan _ _ (sym (ap answer_of c.in-Ok.is) ∙ c.numeral_at-n.ensures)
