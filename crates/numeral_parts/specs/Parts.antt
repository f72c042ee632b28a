-- The parts of a numeral as they are written.
use Rattle.std.specs.Prelude.{Bool, false, not, ◌&&◌, ◌||◌, cond, [], ◌∷◌, ℕ, ◌+◌, leb, ltb, eqb, length, take, drop}
use Rattle.laws.specs.Bytes.{Bytes, byte}
use Rattle.laws.specs.Runs.{all, run}
use Rattle.numeral_parts.specs.Digits.{is_digit, digits}

-- "Optional sign"
unfoldable pub is_sign : ℕ → Bool
is_sign b = eqb b (byte "+") || eqb b (byte "-")

unfoldable pub negative : Bytes → Bool
negative [] = false
negative (b ∷ w) = eqb b (byte "-")

unfoldable pub unsigned : Bytes → Bytes
unsigned [] = []
unsigned (b ∷ w) = cond (is_sign b) w (b ∷ w)

-- "at most one point", "optionally `e` or `E`"
unfoldable pub is_point : ℕ → Bool
is_point b = eqb b (byte ".")

unfoldable pub is_mark : ℕ → Bool
is_mark b = eqb b (byte "e") || eqb b (byte "E")

-- the index of the first byte that passes the test, or the length; the bytes before it, and those behind it
unfoldable pub index_of : (ℕ → Bool) → Bytes → ℕ
index_of test = run (λ b. not (test b))

unfoldable pub before : (ℕ → Bool) → Bytes → Bytes
before test w = take (index_of test w) w

unfoldable pub behind : (ℕ → Bool) → Bytes → Bytes
behind test w = drop (index_of test w + 1) w

unfoldable pub has : (ℕ → Bool) → Bytes → Bool
has test w = ltb (index_of test w) (length w)

-- "digits with at most one point and at least one digit"
unfoldable pub is_mantissa : Bytes → Bool
is_mantissa m = all is_digit (before is_point m) && all is_digit (behind is_point m) && leb 1 (length (before is_point m) + length (behind is_point m))

-- "optional sign, 1 to 3 digits"
unfoldable pub is_exponent : Bytes → Bool
is_exponent e = digits 1 3 (unsigned e)
