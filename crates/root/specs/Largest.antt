-- What makes a double the root of another: the characterisation that `root_of` is shown to have.
use Rattle.std.specs.Prelude.{◌*◌, ◌≤◌, T, Float}
use Rattle.std.specs.Float.{binary64}
use Rattle.std.specs.Float.Ieee.{fits, le}
use Rattle.std.specs.Float.Ieee.Positive.{num, den}
use Rattle.std.specs.Float.Ieee.Scale.{finite}

-- "whose exact square is at most x": y * y ≤ x, said of the fractions num / den that the values are
pub record SquareUpTo (y x : Float) : Type 0 where
  pub is_finite : T (finite y)
  pub square : num y * num y * den x ≤ num x * (den y * den y)

-- "the largest double whose exact square is at most x"
pub record Largest (x r : Float) : Type 0 where
  pub double : T (fits binary64 r)
  pub square : SquareUpTo r x
  pub largest : (y : Float) → T (fits binary64 y) → SquareUpTo y x → T (le y r)
