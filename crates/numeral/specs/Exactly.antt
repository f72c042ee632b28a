-- A coefficient with its power, as the code finds its value by one product or quotient.
use Rattle.std.specs.Prelude.{Bool, ◌≡◌, ℕ, Float, Option, Some, None}
use Rattle.numeral.specs.Numeral.{value, refusal, number_of}

-- a value that is found is the number's; where none is, the number is 0 or too large
abbrev pub Exactly : (negative : Bool) (c up down : ℕ) → Option Float → Type 0
Exactly s c up down (Some x) = value x ≡ number_of s c up down
Exactly s c up down None = (c ≡ 0 → ⊥) → refusal 15 ≡ number_of s c up down
