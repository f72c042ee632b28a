-- `fresnel::cos2_squared` meets its contract.
use lib.Ieee.{of_bits}
use Rattle.fresnel.specs.Fresnel.{cos2_squared}
use Rattle.fresnel.proofs.cos2_squared.Goals as goal

pub returns : goal.returns
unfolding cos2_squared of_bits
returns c =
    simp (← c.step-k.ensures, ← c.step.ensures, ← c.step-s.ensures, ← c.step-2.ensures, ← c.step-t.ensures) c.step-3.ensures
