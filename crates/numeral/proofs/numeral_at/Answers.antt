-- `numeral::numeral_at` meets its contract: the numeral in the part.
use mathlib.Core.Path.{ap, ◌∙◌}
use Rattle.numeral.specs.Numeral.{numeral_of}
use Rattle.numeral.proofs.numeral_at.Goals as goal

pub returns : goal.returns
returns c = c.numeral_of.ensures ∙ ap numeral_of c.part.ensures
