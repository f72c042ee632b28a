-- `steps::step` meets its contract.
use mathlib.Core.Path.{sym, ◌∙◌}
use lib.Ieee.{of_bits}
use Rattle.steps.specs.Step.{step}
use Rattle.steps.proofs.step.Goals as goal

pub returns-then-is_finite : goal.returns-then-is_finite
unfolding step
returns-then-is_finite c = simp (sym c.is_finite.ensures ∙ c.if-is_finite.true)

pub returns-else-is_finite : goal.returns-else-is_finite
unfolding step of_bits
returns-else-is_finite c = simp (sym c.is_finite.ensures ∙ c.if-is_finite.false)
