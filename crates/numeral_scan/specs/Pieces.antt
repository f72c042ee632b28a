-- The pieces of a numeral as the scan reads them, each from one place of the text to another.
use Rattle.std.specs.Prelude.{Bool, true, ◌&&◌, cond, [], ◌∷◌, ◌≡◌, ℕ, ◌+◌, ◌-◌, ◌≤◌, ◌<◌, max, ltb, eqb, length, drop, get_or}
use Rattle.laws.specs.Bytes.{Bytes, byte, part}
use Rattle.laws.specs.Runs.{all}
use Rattle.numeral_parts.specs.Digits.{is_digit, value_from, value_of}
use Rattle.numeral_parts.specs.Parts.{is_exponent, is_point, negative, unsigned}
use Rattle.numeral_parts.specs.Saturated.{limit}
use Rattle.numeral_scan.specs.declared.Power.{Power}
use Rattle.numeral_scan.specs.declared.Row.{Row}

-- whether a byte stands at a place
unfoldable pub stands : Bytes → ℕ → ℕ → Bool
stands text at b = ltb at (length text) && eqb (get_or text at 0) b

-- a piece from one place to another goes forward, and not past the text's end
pub record Piece (text : Bytes) (at end : ℕ) : Type 0 where
  pub forward : at ≤ end
  pub most : end ≤ max at (length text)

-- digits, and the number that they read as behind n
pub record RowAt (text : Bytes) (at n : ℕ) (r : Row) : Type 0 where
  pub piece : Piece text at r.end
  pub digits : all is_digit (part text at (r.end - at)) ≡ true
  pub value_is : r.value ≡ value_from n (part text at (r.end - at))
  pub small : r.value < limit

-- a point and digits, or nothing
unfoldable pub is_fraction : Bytes → Bool
is_fraction [] = true
is_fraction (b ∷ w) = is_point b && all is_digit w

pub record FractionAt (text : Bytes) (at n : ℕ) (r : Row) : Type 0 where
  pub piece : Piece text at r.end
  pub form : is_fraction (part text at (r.end - at)) ≡ true
  pub value_is : r.value ≡ value_from n (drop 1 (part text at (r.end - at)))

-- the powers of ten up and down that an exponent stands for
abbrev pub up_by : Bytes → ℕ
up_by e = cond (negative e) 0 (value_of (unsigned e))

abbrev pub down_by : Bytes → ℕ
down_by e = cond (negative e) (value_of (unsigned e)) 0

pub record ExponentAt (text : Bytes) (at down : ℕ) (r : Power) : Type 0 where
  pub piece : Piece text at r.end
  pub form : is_exponent (part text at (r.end - at)) ≡ true
  pub up_is : r.up ≡ up_by (part text at (r.end - at))
  pub down_is : r.down ≡ down + down_by (part text at (r.end - at))

-- an `e` and an exponent, or nothing
unfoldable pub is_power : Bytes → Bool
is_power [] = true
is_power (b ∷ e) = eqb b (byte "e") && is_exponent e

pub record PowerAt (text : Bytes) (at down : ℕ) (r : Power) : Type 0 where
  pub piece : Piece text at r.end
  pub form : is_power (part text at (r.end - at)) ≡ true
  pub up_is : r.up ≡ up_by (drop 1 (part text at (r.end - at)))
  pub down_is : r.down ≡ down + down_by (drop 1 (part text at (r.end - at)))
