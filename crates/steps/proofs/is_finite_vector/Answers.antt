-- `steps::is_finite_vector` meets its contract.
use Rattle.steps.specs.Vectors.{finite_vector}
use Rattle.steps.proofs.is_finite_vector.Goals as goal

pub returns : goal.returns
unfolding finite_vector
returns c = cc
