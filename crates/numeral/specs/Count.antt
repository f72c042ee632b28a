-- Counts.
use Rattle.std.specs.Prelude.{cond, ℕ}
use Rattle.std.specs.Prelude.{Option as Found, Some, None}
use Rattle.std.proofs.Math.Option.{Option, none, some}
use Rattle.laws.specs.Bytes.{Bytes}
use Rattle.numeral_parts.specs.Digits.{digits, value_of}

-- "A count is 1 to 5 decimal digits": its value, or none where it is malformed
unfoldable pub count_of : Bytes → Option ℕ
count_of w = let value = value_of w in cond (digits 1 5 w) (some value) none

-- the count that the code's answer means
abbrev pub counted : Found ℕ → Option ℕ
counted (Some n) = some n
counted None = none
