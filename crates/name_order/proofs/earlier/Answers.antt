-- `name_order::earlier` meets its contract.
use mathlib.Core.Path.{◌∙◌}
use Rattle.keys.specs.Key.{lower}
use Rattle.name_order.specs.Sort.{earlier}
use Rattle.name_order.proofs.earlier.Goals as goal

pub returns : goal.returns
unfolding earlier
returns c = c.lower.ensures ∙ (λ i. lower (c.name_of.ensures i) (c.name_of-2.ensures i))
