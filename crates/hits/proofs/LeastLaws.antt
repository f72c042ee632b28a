-- The default least distance, as the code has it.
use mathlib.Core.Path.{◌≡◌, refl}
use lib.Ieee.{binary64, of_bits, round}
use Rattle.hits.specs.Ahead.{default_least}

pub default_bits : of_bits binary64 4562254508917369340 ≡ default_least
unfolding of_bits default_least round
default_bits = refl
