-- The four constants, as the code has them.
use mathlib.Core.Path.{◌≡◌, refl}
use lib.Ieee.{binary64, of_bits, round}
use Rattle.pane.specs.Transmissivity.{offset, slope, origin, scale}

pub offset_bits : of_bits binary64 4605743544331043615 ≡ offset
unfolding of_bits offset round
offset_bits = refl

pub slope_bits : of_bits binary64 4575011267044216680 ≡ slope
unfolding of_bits slope round
slope_bits = refl

pub origin_bits : of_bits binary64 4606431696359108381 ≡ origin
unfolding of_bits origin round
origin_bits = refl

pub scale_bits : of_bits binary64 4570507667301554033 ≡ scale
unfolding of_bits scale round
scale_bits = refl
