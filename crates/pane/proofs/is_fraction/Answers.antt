-- `pane::is_fraction` meets its contract.
use mathlib.Core.Path.{refl}
use lib.Ieee.{of_bits}
use Rattle.pane.specs.Factors.{is_fraction}
use Rattle.pane.proofs.is_fraction.Goals as goal

pub returns : goal.returns
unfolding is_fraction of_bits
returns c = refl
