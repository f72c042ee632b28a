-- What a host program is told of two saves along an order of each: a number for the kind of answer, and the answer's values in a
-- small array.
use Rattle.std.specs.Prelude.{List, [], ◌∷◌, ◌≡◌, ℕ, get_or}
use Rattle.comparison.specs.Answer as line
use Rattle.comparison.specs.Next.{Next}
use Rattle.comparison.specs.Next as next
use Rattle.ordered.specs.Lines.{Scene, lines_from}
use Rattle.comparison.specs.declared.Line.{Line}
use Rattle.ordered.specs.declared.Cursors.{Cursors}

-- the cursors held: left and right
abbrev pub cursors_in : List ℕ → Cursors
cursors_in a = record { left = get_or a 0 0; right = get_or a 1 0 }

-- the first of some lines, as a comparison by keys answers it
abbrev pub first_of : List Line → Next
first_of [] = next.End
first_of (x ∷ xs) = next.Line x.place x.nth x.state

-- the array of the first of some lines: two cursors, side, number, nth and state; six zeros where there is none
abbrev pub told : Cursors → List Line → List ℕ
told c [] = 0 ∷ 0 ∷ line.values_of next.End
told c (x ∷ xs) = c.left ∷ c.right ∷ line.values_of (first_of (x ∷ xs))

-- the lines behind the first of some; where there is none, all lines again
abbrev pub further_of : (l r : Scene) → List Line → List Line
further_of l r [] = lines_from l r (record { left = 0; right = 0 })
further_of l r (x ∷ xs) = xs

-- 1 for a line and 0 for the end; the first line from the cursors held; and from the array's cursors on, the lines behind it
pub record HostOrdered (l r : Scene) (held : List ℕ) (answer : ℕ) (out : List ℕ) : Type 0 where
  pub says : answer ≡ line.kind_number (first_of (lines_from l r (cursors_in held)))
  pub numbers : out ≡ told (cursors_in out) (lines_from l r (cursors_in held))
  pub further : lines_from l r (cursors_in out) ≡ further_of l r (lines_from l r (cursors_in held))
