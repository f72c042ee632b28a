-- `steps::along` meets its contract.
use Rattle.steps.specs.Vectors.{along}
use Rattle.steps.proofs.StepLaws.{add_r}
use Rattle.steps.proofs.along.Goals as goal

pub returns : goal.returns
unfolding along
returns c =
    simp (add_r, ← c.step.ensures, ← c.step-2.ensures, ← c.step-3.ensures)
