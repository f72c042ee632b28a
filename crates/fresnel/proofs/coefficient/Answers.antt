-- `fresnel::coefficient` meets its contract.
use Rattle.fresnel.specs.Fresnel.{coefficient}
use Rattle.fresnel.proofs.coefficient.Goals as goal

pub returns : goal.returns
unfolding coefficient
returns c = cc
