-- What becomes of a record: one law for each answer of the code.
use mathlib.Core.Bool.{Bool, true, false, cond, ◌&&◌}
use mathlib.Core.List.{List, ◌++◌, append_assoc}
use mathlib.Core.Path.{◌≡◌, sym, ap, ◌∙◌}
use Prim.Native.Nat.{ℕ, ◌+◌}
use native.Mathlib.Numerals.{add-one}
use borrow.Author.Tests.{eq-eqb, ne_eqb}
use lib.Dec.{eqb}
use Rattle.laws.specs.Bytes.{Bytes}
use Rattle.moving.specs.declared.Direction.{Direction}
use Rattle.moving.specs.declared.Direction.TheVariants.{Back, Forth}
use Rattle.scene.specs.Record.{record_in}
use Rattle.moved_text.specs.MovedText.{change_by, change_of, moved_row, moved_rows, spelled_at}
use Rattle.moved_text.specs.declared.Change.TheVariants.{Added, Dropped, Kept}

module _ (m : Direction) (text : Bytes) (T : List ℕ) (n : ℕ) where
  pub of_alias : ((record_in T n).target ≡ 0 → ⊥) → Kept ≡ change_of m text T n
  unfolding change_of
  of_alias h = rw (ne_eqb (record_in T n).target 0 h)

  pub of_other : (record_in T n).target ≡ 0 → ((record_in T n).type ≡ 23 → ⊥) → Kept ≡ change_of m text T n
  unfolding change_of
  of_other z h = rw (eq-eqb (record_in T n).target 0 z, ne_eqb (record_in T n).type 23 h)

  module _ (z : (record_in T n).target ≡ 0) (h : (record_in T n).type ≡ 23) where
    of_glass : change_by m (record_in T n).reals (spelled_at text T n) ≡ change_of m text T n
    unfolding change_of
    of_glass = rw (eq-eqb (record_in T n).target 0 z, eq-eqb (record_in T n).type 23 h)

    forth : m ≡ Forth → change_of m text T n ≡ cond (eqb (record_in T n).reals 3) Added Kept
    forth d = sym of_glass ∙ ap (λ (x : Direction). change_by x (record_in T n).reals (spelled_at text T n)) d

    back : m ≡ Back → change_of m text T n ≡ cond (eqb (record_in T n).reals 4 && spelled_at text T n) Dropped Kept
    back d = sym of_glass ∙ ap (λ (x : Direction). change_by x (record_in T n).reals (spelled_at text T n)) d

    pub forth_three : m ≡ Forth → (record_in T n).reals ≡ 3 → Added ≡ change_of m text T n
    forth_three d e = sym (forth d ∙ ap (λ (b : Bool). cond b Added Kept) (eq-eqb (record_in T n).reals 3 e))

    pub forth_other : m ≡ Forth → ((record_in T n).reals ≡ 3 → ⊥) → Kept ≡ change_of m text T n
    forth_other d e = sym (forth d ∙ ap (λ (b : Bool). cond b Added Kept) (ne_eqb (record_in T n).reals 3 e))

    pub back_spelled : m ≡ Back → (eqb (record_in T n).reals 4 && spelled_at text T n) ≡ true → Dropped ≡ change_of m text T n
    back_spelled d e = sym (back d ∙ ap (λ (b : Bool). cond b Dropped Kept) e)

    pub back_other : m ≡ Back → (eqb (record_in T n).reals 4 && spelled_at text T n) ≡ false → Kept ≡ change_of m text T n
    back_other d e = sym (back d ∙ ap (λ (b : Bool). cond b Dropped Kept) e)

  -- one record more
  pub one_moved : moved_rows m text T n ++ moved_row m text T (n + 1) ≡ moved_rows m text T (n + 1)
  unfolding moved_rows
  one_moved = rw add-one

-- the pieces of a record of glass, as the code puts them
pub pieces : (m s l c w e : Bytes) → m ++ s ++ l ++ c ++ w ++ e ≡ m ++ (s ++ (l ++ (c ++ (w ++ e))))
pieces m s l c w e = simp append_assoc
