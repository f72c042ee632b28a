-- A row of digits as the code reads it: numbers past the limit are kept at the limit.
use Rattle.std.specs.Prelude.{cond, ℕ, ◌^◌, min, Option, Some, None}
use Rattle.laws.specs.Bytes.{Bytes}
use Rattle.laws.specs.Runs.{all}
use Rattle.numeral_parts.specs.Digits.{is_digit, value_from}

abbrev pub limit : ℕ
limit = 10 ^ 15

unfoldable pub saturated : ℕ → Bytes → Option ℕ
saturated n w = cond (all is_digit w) (Some (min limit (value_from n w))) None
