-- The lines of a comparison: "a definition provides this paper's number and values for each of its cases".
use Rattle.std.specs.Prelude.{List, [], ◌∷◌, ℕ}
use Rattle.comparison.specs.Next.{Next}
use Rattle.comparison.specs.declared.Place.{Place}
use Rattle.comparison.specs.declared.State.{State}
use Rattle.comparison.specs.Next as next
use Rattle.comparison.specs.declared.Place.TheVariants as on
use Rattle.comparison.specs.declared.State.TheVariants as is

-- which scene a primitive stands in, and its number there
abbrev pub side_of : Place → ℕ
side_of (on.Left n) = 0
side_of (on.Right n) = 1

abbrev pub number_of : Place → ℕ
number_of (on.Left n) = n
number_of (on.Right n) = n

-- "only left, only right, changed or same", from 1: "same keys print nothing"
abbrev pub state_number : State → ℕ
state_number is.OnlyLeft = 1
state_number is.OnlyRight = 2
state_number is.Changed = 3

-- 0 for the end and 1 for a line
abbrev pub kind_number : Next → ℕ
kind_number next.End = 0
kind_number (next.Line p n s) = 1

-- a line's side, number, nth and state
abbrev pub values_of : Next → List ℕ
values_of next.End = 0 ∷ 0 ∷ 0 ∷ 0 ∷ []
values_of (next.Line p n s) = side_of p ∷ number_of p ∷ n ∷ state_number s ∷ []
