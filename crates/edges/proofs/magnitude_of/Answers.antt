-- `edges::magnitude_of` meets its contract.
use lib.Ieee.{of_bits}
use Rattle.edges.specs.Normal.{magnitude}
use Rattle.edges.proofs.magnitude_of.Goals as goal

pub returns-then-t : goal.returns-then-t
unfolding magnitude of_bits
returns-then-t c = simp c.if-t.true

pub returns : goal.returns
unfolding magnitude of_bits
returns c = simp c.if-t.false
