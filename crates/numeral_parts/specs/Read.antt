-- The parts of a numeral as the code hands them on.
use Rattle.std.specs.Prelude.{Bool, ◌||◌, cond, ◌++◌, ℕ, min, eqb, length, Option, Some, None}
use Rattle.laws.specs.Bytes.{Bytes}
use Rattle.numeral_parts.specs.Digits.{value_of}
use Rattle.numeral_parts.specs.Parts.{before, behind, is_point, is_mantissa, is_exponent, negative, unsigned}
use Rattle.numeral_parts.specs.Saturated.{limit}
use Rattle.numeral_parts.specs.declared.Exponent.{Exponent}
use Rattle.numeral_parts.specs.declared.Exponent.TheVariants.{Up, Down}
use Rattle.numeral_parts.specs.declared.Mantissa.{Mantissa}

abbrev pub either : ℕ → ℕ → ℕ → Bool
either x y b = eqb b x || eqb b y

-- a coefficient, kept at the limit, and the number of its digits behind the point
abbrev pub scaled : ℕ → ℕ → Mantissa
scaled c k = record { coefficient = c; after = k }

unfoldable pub mantissa_in : Bytes → Option Mantissa
mantissa_in m =
    let digits = before is_point m ++ behind is_point m in
    cond (is_mantissa m) (Some (scaled (min limit (value_of digits)) (length (behind is_point m)))) None

unfoldable pub exponent_in : Bytes → Option Exponent
exponent_in e =
    let size = value_of (unsigned e) in
    cond (is_exponent e) (Some (cond (negative e) (Down size) (Up size))) None
