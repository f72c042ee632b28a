-- "All steps in f64, one rounding each", said by distances: a checked step that is finite is the nearest double to the exact result.
use Rattle.std.specs.Prelude.{Bool, ◌&&◌, cond, not, ℕ, ◌*◌, T, ltb, Float}
use Rattle.std.specs.Bool.{beq}
use Rattle.std.specs.Float.{binary64}
use Rattle.std.specs.Float.Ieee.{unlike}
use Rattle.std.specs.Float.Ieee.Positive.{den, num}
use Rattle.std.specs.Float.Ieee.Scale.{finite}
use Rattle.rounding.specs.Nearest.{Nearest, apart, sign}
use Rattle.steps.specs.Step.{◌⊕◌, ◌⊖◌, ◌⊗◌, ◌⊘◌}

-- the sign of ±a + ±b; an exact zero has a negative one where both are negative
abbrev pub sum_sign : Bool → ℕ → Bool → ℕ → Bool
sum_sign s a t b = cond (beq s t) s (cond (ltb a b) t (s && ltb b a))

-- ±a / c + ±b / d over c * d: its sign, and its size |±a d - ∓b c|
abbrev pub SumNearest : (x y : Float) (t : Bool) → Float → Type 0
SumNearest x y t z = Nearest binary64 (sum_sign (sign x) (num x * den y) t (num y * den x)) (apart (sign x) (num x * den y) (not t) (num y * den x)) (den x * den y) z

-- the four checked operations, of finite doubles
pub record Stepped (x y : Float) : Type 0 where
  pub sum : T (finite (x ⊕ y)) → SumNearest x y (sign y) (x ⊕ y)
  pub difference : T (finite (x ⊖ y)) → SumNearest x y (not (sign y)) (x ⊖ y)
  pub product : T (finite (x ⊗ y)) → Nearest binary64 (unlike (sign x) (sign y)) (num x * num y) (den x * den y) (x ⊗ y)
  pub quotient : T (finite (x ⊘ y)) → Nearest binary64 (unlike (sign x) (sign y)) (num x * den y) (num y * den x) (x ⊘ y)

abbrev pub StepLaw : Type 0
StepLaw = (x y : Float) → T (finite x) → T (finite y) → Stepped x y
