-- What is taken of two hands' scenes, by matches. A match is twice the number of a record there, 0 for none, and one more where both
-- are equal.
use Rattle.std.specs.Prelude.{Bool, false, ◌||◌, cond, List, Option, Some, None, ◌≡◌, ℕ, zero, suc, ◌+◌, ◌-◌, ◌/◌, ◌%◌, eqb, leb, length}
use Rattle.joining.specs.Pick.{chosen}
use Rattle.joining.specs.declared.Choice.{Choice}
use Rattle.joining.specs.declared.Choice.TheVariants.{Clash, Left, Right}
use Rattle.tabled.specs.Tabled.{tabled}
use Rattle.table.specs.Number.{number_in}

abbrev pub is_equal : ℕ → Bool
is_equal m = eqb (m % 2) 1

-- what becomes of a record: 0 it is dropped, 1 it waits for its place, 2 its name clashes
abbrev pub mark_left : Choice → ℕ
mark_left Left = 1
mark_left Right = 0
mark_left Clash = 2

abbrev pub mark_right : Choice → ℕ
mark_right Left = 0
mark_right Right = 1
mark_right Clash = 2

-- whether right left the base's definition, of a name that left has: by its match in right, and in the base
unfoldable pub right_kept : (right_base : List ℕ) (other base : ℕ) → Bool
right_kept right_base other base = cond (eqb other 0) (eqb base 0) (is_equal (number_in right_base (other / 2)))

-- for the name of left's record l
unfoldable pub choice_left : (left_right left_base right_base : List ℕ) (l : ℕ) → Choice
choice_left left_right left_base right_base l =
    let other = number_in left_right l in
    let base = number_in left_base l in
    chosen (is_equal other) (is_equal base) (right_kept right_base other base)

-- for the name of right's record r: left may have it
unfoldable pub choice_right : (left_right left_base right_left right_base : List ℕ) (r : ℕ) → Choice
choice_right left_right left_base right_left right_base r =
    let other = number_in right_left r in
    let base = number_in right_base r in
    cond (eqb other 0) (chosen false (eqb base 0) (is_equal base)) (choice_left left_right left_base right_base (other / 2))

-- number n of both hands, right's records first, then left's
unfoldable pub mark_at : (left_right left_base right_left right_base : List ℕ) (n : ℕ) → ℕ
mark_at left_right left_base right_left right_base n =
    let split = length right_left in
    cond (leb n split) (mark_right (choice_right left_right left_base right_left right_base n)) (mark_left (choice_left left_right left_base right_base (n - split)))

-- ---- one call

-- whether one of the first n clashes, and how many of them are taken
unfoldable pub clash_to : (ℕ → ℕ) → ℕ → Bool
clash_to mark zero = false
clash_to mark (suc n) = clash_to mark n || eqb (mark (suc n)) 2

unfoldable pub taken_to : (ℕ → ℕ) → ℕ → ℕ
taken_to mark zero = 0
taken_to mark (suc n) = taken_to mark n + mark (suc n)

pub record Picks (mark : ℕ → ℕ) (n : ℕ) (r : Option ℕ) (marks : List ℕ) : Type 0 where
  pub answer : r ≡ cond (clash_to mark n) None (Some (taken_to mark n))
  pub marked : clash_to mark n ≡ false → marks ≡ tabled mark n
