-- A mantissa with its exponent, as the code hands both on.
use Rattle.std.specs.Prelude.{Bool, ℕ, ◌+◌, Option, Some, None}
use Rattle.numeral.specs.Numeral.{Answer, refusal, number_of}
use Rattle.numeral_parts.specs.declared.Exponent.{Exponent}
use Rattle.numeral_parts.specs.declared.Exponent.TheVariants.{Up, Down}

-- a coefficient with `after` digits behind the point, and an exponent
abbrev pub powered_by : Bool → ℕ → ℕ → Option Exponent → Answer
powered_by s c after None = refusal 14
powered_by s c after (Some (Up n)) = number_of s c n after
powered_by s c after (Some (Down n)) = number_of s c 0 (after + n)
