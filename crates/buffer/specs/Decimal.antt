-- A number in base ten.
use Rattle.std.specs.Prelude.{[], ◌∷◌, ◌++◌, ℕ, zero, suc, ◌+◌, ◌/◌, ◌%◌}
use Rattle.laws.specs.Bytes.{Bytes, byte, bytes}

-- the last k digits of a number, without leading zeros
unfoldable pub digits : ℕ → ℕ → Bytes
digits zero n = []
digits (suc k) zero = []
digits (suc k) (suc n) = digits k (suc n / 10) ++ ((byte "0" + suc n % 10) ∷ [])

-- a number with no leading zero. It has no more digits than it counts
unfoldable pub decimal : ℕ → Bytes
decimal zero = bytes "0"
decimal (suc n) = digits (suc n) (suc n)
