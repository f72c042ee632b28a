-- `fresnel::mean` meets its contract.
use lib.Ieee.{of_bits}
use Rattle.fresnel.proofs.mean.Goals as goal

pub returns : goal.returns
unfolding of_bits
returns c = cc
