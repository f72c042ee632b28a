-- "Lines go out one by one in key order": the first line after a key, and the lines that come from asking again and again.
use Rattle.std.specs.Prelude.{List, [], ◌∷◌, ℕ, zero, suc, length}
use Rattle.keys.specs.After.{after}
use Rattle.keys.specs.Key.{Key, key_of, keys_of, found}
use Rattle.scene.specs.Told.{Told}
use Rattle.comparison.specs.Compare.{State, absent, left, right, changed, alike, Line, lines_for}
use Rattle.comparison.specs.Next.{Next}
use Rattle.comparison.specs.declared.Place.{Place}
use Rattle.comparison.specs.declared.State.{State as CodeState}
use Rattle.comparison.specs.Next as next
use Rattle.comparison.specs.declared.Place.TheVariants as on
use Rattle.comparison.specs.declared.State.TheVariants as is

-- the key of a number in one of both scenes; number 0 has the key before every other
abbrev pub key_in : (l r : List Told) → Place → Key
key_in l r (on.Left n) = key_of l n
key_in l r (on.Right n) = key_of r n

-- by a key's numbers in both scenes: the left one, or else the right one
abbrev pub place_by : (m n : ℕ) → Place
place_by zero n = on.Right n
place_by (suc m) n = on.Left (suc m)

-- the number of a key: in the left scene where that has it, else in the right one
abbrev pub place_of : (l r : List Told) → Key → Place
place_of l r k = place_by (length (found k l)) (length (found k r))

-- the lines for what comes after a key
abbrev pub lines_after : (l r : List Told) → Key → List Line
lines_after l r k = lines_for l r (after k (keys_of l r))

-- the answer for a key in a state, with its number and its nth; only three states have a line
abbrev pub answer_in : State → Place → (nth : ℕ) → Next
answer_in absent p n = next.End
answer_in alike p n = next.End
answer_in left p n = next.Line p n is.OnlyLeft
answer_in right p n = next.Line p n is.OnlyRight
answer_in changed p n = next.Line p n is.Changed

-- the answer for the first of some lines: its number, its nth and its state; the end where there is none
abbrev pub first_line : (l r : List Told) → List Line → Next
first_line l r [] = next.End
first_line l r (x ∷ xs) = answer_in x.state (place_of l r x.key) x.key.nth

-- what is answered after the key held: the first of the lines after it
abbrev pub next_line : (l r : List Told) → Place → Next
next_line l r p = first_line l r (lines_after l r (key_in l r p))

-- the state that an answer names
abbrev pub state_in : CodeState → State
state_in is.OnlyLeft = left
state_in is.OnlyRight = right
state_in is.Changed = changed

-- a line handed out, and what follows from its place
abbrev pub handed_on : (l r : List Told) → (Place → List Line) → Next → List Line
handed_on l r rest next.End = []
handed_on l r rest (next.Line p n s) = record { key = key_in l r p; state = state_in s } ∷ rest p

-- the lines that come from handing out again and again, at most so many, each from the place that the last one holds
unfoldable pub handed : (l r : List Told) → (Place → Next) → ℕ → Place → List Line
handed l r f zero p = []
handed l r f (suc n) p = handed_on l r (handed l r f n) (f p)
