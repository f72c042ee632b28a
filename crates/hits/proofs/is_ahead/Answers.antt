-- `hits::is_ahead` meets its contract.
use mathlib.Core.Path.{refl}
use lib.Ieee.{of_bits}
use Rattle.hits.specs.Ahead.{ahead}
use Rattle.hits.proofs.is_ahead.Goals as goal

pub returns : goal.returns
unfolding ahead of_bits
returns c = refl
