-- `pane::rest` meets its contract.
use lib.Ieee.{of_bits}
use Rattle.pane.specs.Factors.{rest}
use Rattle.pane.proofs.rest.Goals as goal

pub returns : goal.returns
unfolding rest of_bits
returns c = cc
