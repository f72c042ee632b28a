-- `pane::back_part` meets its contract.
use lib.Ieee.{of_bits}
use Rattle.pane.specs.Factors.{back_part}
use Rattle.pane.proofs.back_part.Goals as goal

pub returns : goal.returns
unfolding back_part of_bits
returns c =
    simp (← c.step.ensures, ← c.step-v.ensures, ← c.step-2.ensures, ← c.step-w.ensures, ← c.step-3.ensures, ← c.step-4.ensures, ← c.rest.ensures) c.step-5.ensures
