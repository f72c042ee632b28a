-- The definitions of one scene in another, by the numbers of their records.
use Rattle.std.specs.Prelude.{Bool, not, ◌&&◌, ◌||◌, cond, List, ℕ, suc, ◌+◌, eqb, Float}
use Rattle.bits.specs.Bits.{same_reals}
use Rattle.content.specs.Content.{same_but_links}
use Rattle.laws.specs.Bytes.{Bytes, same}
use Rattle.name_index.specs.Names.{number_of_name}
use Rattle.scene.specs.Record.{field_in, name_in, record_in}
use Rattle.scene.specs.Told.{reals_of}

-- ---- a match as one number: twice the record's number, 0 for none, and one more where they are equal

unfoldable pub match_with : (equal : Bool) (n : ℕ) → ℕ
match_with equal n = cond (eqb n 0) 0 (cond equal (suc (n + n)) (n + n))

-- ---- two records

-- links i and j, which lead to the same name or both to none
unfoldable pub same_link : Bytes → (A : List ℕ) (i : ℕ) → Bytes → (B : List ℕ) (j : ℕ) → Bool
same_link a A i b B j = cond (eqb i 0) (eqb j 0) (not (eqb j 0) && same (name_in a A i) (name_in b B j))

-- "two are equal as in L1 with modifiers and targets by name, an alias by these alone"
unfoldable pub same_row : Bytes → (A : List ℕ) (x : List Float) (m : ℕ) → Bytes → (B : List ℕ) (y : List Float) (n : ℕ) → Bool
same_row a A x m b B y n =
    same_link a A (field_in A m 1) b B (field_in B n 1)
    && same_link a A (field_in A m 2) b B (field_in B n 2)
    && (not (eqb (field_in A m 2) 0) || same_but_links a (record_in A m) b (record_in B n) && same_reals (reals_of x (record_in A m)) (reals_of y (record_in B n)))

-- the match of record m of a scene in another
unfoldable pub match_of : Bytes → (A : List ℕ) (x : List Float) → Bytes → (B : List ℕ) (y : List Float) → (m : ℕ) → ℕ
match_of a A x b B y m = let n = number_of_name b B (name_in a A m) in match_with (same_row a A x m b B y n) n
