-- `steps::dot` meets its contract.
use Rattle.steps.specs.Vectors.{dot}
use Rattle.steps.proofs.StepLaws.{add_l, add_r}
use Rattle.steps.proofs.dot.Goals as goal

pub returns : goal.returns
unfolding dot
returns c = simp (add_l, add_r) c.step.ensures
