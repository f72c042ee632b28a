-- `content::same_reals` meets its contract.
use mathlib.Core.Path.{◌∙◌}
use Rattle.bits.specs.Bits.{same_reals}
use Rattle.content.proofs.same_reals.Goals as goal

pub returns : goal.returns
returns c = c.same_bits.ensures ∙ (λ i. same_reals (c.reals_of.ensures i) (c.reals_of-2.ensures i))
