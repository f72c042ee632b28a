-- Decimal digits, rows of them, and the whole number that a row reads as.
use Rattle.std.specs.Prelude.{Bool, ◌&&◌, [], ◌∷◌, ℕ, ◌+◌, ◌*◌, ◌-◌, leb, length}
use Rattle.laws.specs.Bytes.{Bytes, byte}
use Rattle.laws.specs.Runs.{all}

unfoldable pub is_digit : ℕ → Bool
is_digit b = leb (byte "0") b && leb b (byte "9")

-- from `least` to `most` decimal digits and nothing else
unfoldable pub digits : ℕ → ℕ → Bytes → Bool
digits least most w = leb least (length w) && leb (length w) most && all is_digit w

-- the whole number that digits read as, behind digits that read as v
unfoldable pub value_from : ℕ → Bytes → ℕ
value_from v [] = v
value_from v (b ∷ bs) = value_from (v * 10 + (b - byte "0")) bs

abbrev pub value_of : Bytes → ℕ
value_of = value_from 0
