-- `steps::minus` meets its contract.
use Rattle.steps.specs.Vectors.{minus}
use Rattle.steps.proofs.minus.Goals as goal

pub returns : goal.returns
unfolding minus
returns c = λ i. record { x = c.step.ensures i; y = c.step-2.ensures i; z = c.step-3.ensures i }
