-- Whether the order of two entries of a table mattered. The table may hold anything.
use Rattle.std.specs.Prelude.{Bool, true, ◌&&◌, cond, List, [], ◌∷◌, ℕ, zero, suc, ◌+◌, min, max, eqb, leb, ltb, length}
use Rattle.holding.specs.Shortest.{first_link}
use Rattle.laws.specs.Bytes.{Bytes}
use Rattle.precedence.specs.Order.{Order, Free, Held, Refused}
use Rattle.scene.specs.Record.{record_in}
use Rattle.table.specs.Question.{number_refusal}
use Rattle.ties.specs.Ties.{bound_rows, classes_to, gives_to}

-- a record's links lead to records above it, and its name stands in the text
unfoldable pub row_fits : Bytes → (table : List ℕ) → (n : ℕ) → Bool
row_fits text T n =
    let r = record_in T n in
    ltb r.modifier n && ltb r.target n && leb 1 r.name_length && leb (r.name + r.name_length) (length text)

unfoldable pub all_fit : Bytes → (table : List ℕ) → (count : ℕ) → Bool
all_fit text T zero = true
all_fit text T (suc n) = all_fit text T n && row_fits text T (suc n)

-- "Refusals 17 and 18 as the finish walk's": the stated count and each number, first n; two numbers that are one are no pair, 17; then a
-- link that is not below its record or a name that the text does not have, 18
unfoldable pub refusal_of : Bytes → (table : List ℕ) → (count n m : ℕ) → ℕ
refusal_of text T count n m =
    let first = number_refusal T count n in
    let second = number_refusal T count m in
    cond (eqb first 0) (cond (eqb second 0) (cond (eqb n m) 17 (cond (all_fit text T count) 0 18)) second) first

-- "the name that binds": n's own, where n gives it and k gives or refers to it; else k's, which n refers to. The number that has it
unfoldable pub binder : (table classes : List ℕ) → (n k : ℕ) → ℕ
binder T C n k = cond (gives_to T C n k) n k

-- by the first link from the upper entry on, 0 for none
abbrev pub by_link : (table classes : List ℕ) → (n k : ℕ) → Order
by_link T C n k = cond (eqb k 0) Free (Held k (binder T C n k))

-- of two entries the upper one, n, holds the lower one, m, or not
unfoldable pub between : Bytes → (table : List ℕ) → (count n m : ℕ) → Order
between text T count n m = let C = classes_to text T count in by_link T C n (first_link (bound_rows T C) n m)

-- the answer, whichever of the two is named first
unfoldable pub order_of : Bytes → (table : List ℕ) → (count n m : ℕ) → Order
order_of text T count n m =
    let reason = refusal_of text T count n m in
    cond (eqb reason 0) (between text T count (min n m) (max n m)) (Refused reason)

-- the number of each answer, 0, 1 or a refusal's, and its values: the entry a chain goes to first, and the one whose name binds
abbrev pub kind_of : Order → ℕ
kind_of Free = 0
kind_of (Held k b) = 1
kind_of (Refused c) = c

abbrev pub values_of : Order → List ℕ
values_of Free = 0 ∷ 0 ∷ []
values_of (Held k b) = k ∷ b ∷ []
values_of (Refused c) = 0 ∷ 0 ∷ []
