-- `numeral::count_at` meets its contract: the count in the part.
use mathlib.Core.Path.{ap, ◌∙◌}
use Rattle.numeral.specs.Count.{count_of}
use Rattle.numeral.proofs.count_at.Goals as goal

pub returns : goal.returns
returns c = c.count_of.ensures ∙ ap count_of c.part.ensures
