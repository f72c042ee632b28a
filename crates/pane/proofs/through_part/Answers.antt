-- `pane::through_part` meets its contract.
use lib.Ieee.{of_bits}
use Rattle.pane.specs.Factors.{through_part}
use Rattle.pane.proofs.through_part.Goals as goal

pub returns : goal.returns
unfolding through_part of_bits
returns c =
    simp (← c.step-u.ensures, ← c.step.ensures, ← c.step-2.ensures, ← c.rest.ensures) c.step-3.ensures
