-- What the first of two orders come to.
use Rattle.std.specs.Prelude.{ℕ, Option, Some, None}
use Rattle.ordered.specs.declared.Turn.{Turn as CodeTurn}
use Rattle.ordered.specs.declared.Turn.TheVariants as code

-- no number is left; or a number with its nth has a line, or both are the same
pub data Turn : Type 0 where
  End : Turn
  Left : (m nth : ℕ) → Turn
  Right : (n nth : ℕ) → Turn
  Changed : (m nth : ℕ) → Turn
  Same : Turn

-- as the code answers it
abbrev pub turn_told : Option CodeTurn → Turn
turn_told None = End
turn_told (Some (code.Left m x)) = Left m x
turn_told (Some (code.Right n x)) = Right n x
turn_told (Some (code.Changed m x)) = Changed m x
turn_told (Some code.Same) = Same
