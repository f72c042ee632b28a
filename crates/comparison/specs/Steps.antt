-- The step from a key to the one that follows: its numbers in both scenes, and what it comes to.
use Rattle.std.specs.Prelude.{Bool, cond, List, ℕ, zero, suc, eqb, length, Option as Found, Some, None}
use Rattle.std.proofs.Math.Option.{Option, none, some}
use Rattle.keys.specs.Key.{Key, found, lower}
use Rattle.keys.specs.Next.{next_name, next_key}
use Rattle.laws.specs.Bytes.{Bytes}
use Rattle.scene.specs.Record.{name_in}
use Rattle.scene.specs.Told.{Told}
use Rattle.comparison.specs.Compare.{State, absent, left, right, changed, alike, state_of}
use Rattle.comparison.specs.NextLine.{key_in, place_by, place_of}
use Rattle.comparison.specs.declared.Numbers.{Numbers}
use Rattle.comparison.specs.declared.Place.{Place}
use Rattle.comparison.specs.Step.{Step}
use Rattle.comparison.specs.declared.State.TheVariants as is
use Rattle.comparison.specs.Step as step

-- ---- the key that follows, by its numbers

-- of the names of numbers m and n, the lesser; the other where one is 0
unfoldable pub lesser_of : Bytes → List ℕ → (m : ℕ) → Bytes → List ℕ → (n : ℕ) → Bytes
lesser_of a records m b others n =
    let first = name_in a records m in
    let second = name_in b others n in
    cond (eqb m 0) second (cond (eqb n 0) first (cond (lower second first) second first))

-- the numbers of a key in both scenes, and its nth; none where neither has it
abbrev pub numbers_by : (m n nth : ℕ) → Found Numbers
numbers_by zero zero k = None
numbers_by zero (suc n) k = Some (record { left = 0; right = suc n; nth = k })
numbers_by (suc m) n k = Some (record { left = suc m; right = n; nth = k })

-- a number is how many stand from it on
abbrev pub numbers_of : (l r : List Told) → Key → Found Numbers
numbers_of l r k = numbers_by (length (found k l)) (length (found k r)) k.nth

-- those of the key looked for, where there is one
abbrev pub numbers_for : (l r : List Told) → Option Key → Found Numbers
numbers_for l r none = None
numbers_for l r (some k) = numbers_of l r k

-- those of the first key of the least name above w
abbrev pub first_numbers : (l r : List Told) → Bytes → Found Numbers
first_numbers l r w = numbers_for l r (next_name l r w)

-- those of the key that follows k, and of the one that follows the key held
abbrev pub numbers_after : (l r : List Told) → Key → Found Numbers
numbers_after l r k = numbers_for l r (next_key l r k)

abbrev pub next_numbers : (l r : List Told) → Place → Found Numbers
next_numbers l r p = numbers_after l r (key_in l r p)

-- ---- what a key comes to

-- by its numbers, and by whether its primitives are the same where both scenes have it
abbrev pub state_by : (m n : ℕ) → (same : Bool) → State
state_by zero zero s = absent
state_by zero (suc n) s = right
state_by (suc m) zero s = left
state_by (suc m) (suc n) s = cond s alike changed

-- what a key in a state comes to, with its number and its nth
abbrev pub step_in : State → Place → (nth : ℕ) → Step
step_in absent p n = step.End
step_in alike p n = step.Same p
step_in left p n = step.Line p n is.OnlyLeft
step_in right p n = step.Line p n is.OnlyRight
step_in changed p n = step.Line p n is.Changed

-- what a key comes to, by its numbers and by whether its primitives are the same
abbrev pub step_by : Numbers → (same : Bool) → Step
step_by at s = step_in (state_by at.left at.right s) (place_by at.left at.right) at.nth

-- what a key comes to
abbrev pub step_at : (l r : List Told) → Key → Step
step_at l r k = step_in (state_of l r k) (place_of l r k) k.nth

-- what the key looked for comes to, where there is one
abbrev pub step_for : (l r : List Told) → Option Key → Step
step_for l r none = step.End
step_for l r (some k) = step_at l r k

-- what the key comes to that follows the one held
abbrev pub next_step : (l r : List Told) → Place → Step
next_step l r p = step_for l r (next_key l r (key_in l r p))
