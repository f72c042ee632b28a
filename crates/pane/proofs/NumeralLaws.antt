-- The four constants are the doubles that the product reads from the written numerals.
use mathlib.Core.Path.{◌≡◌, refl}
use lib.Ieee.{round}
use Rattle.laws.specs.Bytes.{bytes}
use Rattle.laws.specs.Runs.{all, run}
use Rattle.numeral.specs.Numeral.{numeral_of, value, well_formed, mantissa, exponent, coefficient, up, down, in_range, nearest, number_of}
use Rattle.numeral_parts.specs.Digits.{digits, is_digit, value_from}
use Rattle.numeral_parts.specs.Parts.{is_mantissa, is_exponent, before, behind, has, index_of, is_point, is_mark, is_sign, negative, unsigned}
use Rattle.pane.specs.Transmissivity.{offset, slope, origin, scale}

pub offset_numeral : numeral_of (bytes ".8402528435") ≡ value offset
unfolding all run digits is_digit value_from numeral_of well_formed is_mantissa is_exponent mantissa exponent before behind has index_of is_point is_mark is_sign negative unsigned coefficient up down in_range nearest number_of round offset
offset_numeral = refl

pub slope_numeral : numeral_of (bytes ".0072522239") ≡ value slope
unfolding all run digits is_digit value_from numeral_of well_formed is_mantissa is_exponent mantissa exponent before behind has index_of is_point is_mark is_sign negative unsigned coefficient up down in_range nearest number_of round slope
slope_numeral = refl

pub origin_numeral : numeral_of (bytes ".9166530661") ≡ value origin
unfolding all run digits is_digit value_from numeral_of well_formed is_mantissa is_exponent mantissa exponent before behind has index_of is_point is_mark is_sign negative unsigned coefficient up down in_range nearest number_of round origin
origin_numeral = refl

pub scale_numeral : numeral_of (bytes ".0036261119") ≡ value scale
unfolding all run digits is_digit value_from numeral_of well_formed is_mantissa is_exponent mantissa exponent before behind has index_of is_point is_mark is_sign negative unsigned coefficient up down in_range nearest number_of round scale
scale_numeral = refl
