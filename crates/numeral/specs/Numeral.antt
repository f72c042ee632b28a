-- Numerals, and the double that each stands for.
use Rattle.std.specs.Prelude.{Bool, not, ◌&&◌, ◌||◌, cond, ◌++◌, ℕ, ◌+◌, ◌*◌, ◌^◌, leb, ltb, eqb, Float, length, Result, Ok, Err}
use Rattle.std.specs.Float.{binary64}
use Rattle.std.specs.Float.Ieee.{round}
use Rattle.laws.specs.Bytes.{Bytes}
use Rattle.numeral_parts.specs.Digits.{value_of}
use Rattle.numeral_parts.specs.Parts.{before, behind, has, is_exponent, is_mantissa, is_mark, is_point, negative, unsigned}
use Rattle.numeral.specs.declared.NumeralError.{NumeralError}
use Rattle.numeral.specs.declared.NumeralError.TheVariants.{Malformed, TooLarge}

-- what stands before the exponent's mark, and what behind it
unfoldable pub mantissa : Bytes → Bytes
mantissa w = before is_mark (unsigned w)

unfoldable pub exponent : Bytes → Bytes
exponent w = behind is_mark (unsigned w)

unfoldable pub well_formed : Bytes → Bool
well_formed w = is_mantissa (mantissa w) && (not (has is_mark (unsigned w)) || is_exponent (exponent w))

-- ---- the number

-- "All digits before the `e`, as a whole number, are the coefficient"
unfoldable pub coefficient : Bytes → ℕ
coefficient w = value_of (before is_point (mantissa w) ++ behind is_point (mantissa w))

-- "the power is the exponent less the digits after the point": up less down
unfoldable pub up : Bytes → ℕ
up w = cond (negative (exponent w)) 0 (value_of (unsigned (exponent w)))

unfoldable pub down : Bytes → ℕ
down w = length (behind is_point (mantissa w)) + cond (negative (exponent w)) (value_of (unsigned (exponent w))) 0

-- "The coefficient is below 10^15. If it is not 0, the power lies from -22 to 22."
unfoldable pub in_range : (coefficient up down : ℕ) → Bool
in_range c up down = ltb c (10 ^ 15) && (eqb c 0 || leb up (down + 22) && leb down (up + 22))

-- "The result is the double nearest to the exact number, ties to even. Coefficient 0 gives zero with the numeral's sign":
-- one rounding of the exact fraction
unfoldable pub nearest : (negative : Bool) (coefficient up down : ℕ) → Float
nearest s c up down = round binary64 s (c * 10 ^ up) (10 ^ down)

-- ---- the answer

-- a value, or the number of the reason for refusing
pub data Answer : Type 0 where
  value : Float → Answer
  refusal : ℕ → Answer

-- "15 coefficient or power too large"
unfoldable pub number_of : (negative : Bool) (coefficient up down : ℕ) → Answer
number_of s c up down = cond (in_range c up down) (value (nearest s c up down)) (refusal 15)

-- "14 breaks the numeral rule"; "at one place, the lowest number"
unfoldable pub numeral_of : Bytes → Answer
numeral_of w = cond (well_formed w) (number_of (negative w) (coefficient w) (up w) (down w)) (refusal 14)

-- document 01's number and value for each case of the code's answer
abbrev pub answer_of : Result Float NumeralError → Answer
answer_of (Ok x) = value x
answer_of (Err Malformed) = refusal 14
answer_of (Err TooLarge) = refusal 15

-- 0 where there is a value
abbrev pub reason : Answer → ℕ
reason (value x) = 0
reason (refusal n) = n
