-- Two scenes' records numbered together: right's first, then left's.
use Rattle.std.specs.Prelude.{cond, List, ℕ, ◌+◌, ◌-◌, ◌/◌, eqb, leb, length}
use Rattle.arranging.specs.Order.{Both}
use Rattle.laws.specs.Bytes.{Bytes}
use Rattle.scene.specs.Record.{field_in, name_in, width}
use Rattle.table.specs.Number.{number_in}

-- left's number n among both hands'; 0 stays none
unfoldable pub shifted : (split n : ℕ) → ℕ
shifted split n = cond (eqb n 0) 0 (split + n)

-- what right says of its number, or left of its own
abbrev pub either : {A : Type 0} → (split : ℕ) (right left : ℕ → A) (n : ℕ) → A
either split right left n = cond (leb n split) (right n) (left (n - split))

unfoldable pub name_of : (left : Bytes) (L : List ℕ) (right : Bytes) (R : List ℕ) (n : ℕ) → Bytes
name_of left L right R n = either (length R / width) (name_in right R) (name_in left L) n

unfoldable pub link_of : (L R : List ℕ) (k n : ℕ) → ℕ
link_of L R k n = let split = length R / width in either split (λ m. field_in R m k) (λ m. shifted split (field_in L m k)) n

unfoldable pub kind_of : (L R : List ℕ) (n : ℕ) → ℕ
kind_of L R n = either (length R / width) (λ m. field_in R m 0) (λ m. field_in L m 0) n

-- the number of the same name in the other hand, by its match there
unfoldable pub other_of : (R others : List ℕ) (n : ℕ) → ℕ
other_of R others n =
    let split = length R / width in
    let there = number_in others n / 2 in
    cond (leb n split) (shifted split there) there

abbrev pub both_of : (left : Bytes) (L : List ℕ) (right : Bytes) (R others : List ℕ) → Both
both_of left L right R others = record { name = name_of left L right R; link = link_of L R; other = other_of R others; type = kind_of L R }
