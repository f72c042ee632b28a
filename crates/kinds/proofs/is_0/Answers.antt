-- `kinds::is_0` meets its contract: the code's zero is +0.
use mathlib.Core.Path.{refl}
use lib.Ieee.{of_bits}
use Rattle.scene.specs.HouseRules.{is0}
use Rattle.kinds.proofs.is_0.Goals as goal

pub returns : goal.returns
unfolding of_bits is0
returns c = refl
