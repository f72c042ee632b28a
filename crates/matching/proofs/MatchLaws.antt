-- Links by name, two records test by test, and a match as one number.
use mathlib.Core.Bool.{Bool, true, false, not, ◌&&◌}
use mathlib.Core.List.{List}
use mathlib.Core.Path.{◌≡◌, ap, sym, ◌∙◌}
use Prim.Native.Nat.{ℕ, ◌+◌}
use native.Mathlib.Numerals.{add-one}
use borrow.Author.Tests.{eq-eqb, ne_eqb}
use lib.Dec.{eqb}
use lib.Ieee.{Float}
use Rattle.bits.specs.Bits.{same_reals}
use Rattle.content.specs.Content.{same_but_links}
use Rattle.laws.proofs.BoolLaws.{not_false, not_true}
use Rattle.laws.specs.Bytes.{Bytes, same}
use Rattle.name_index.specs.Names.{number_of_name}
use Rattle.scene.specs.Record.{field_in, name_in, record_in}
use Rattle.scene.specs.Told.{reals_of}
use Rattle.matching.specs.Matching.{match_of, match_with, same_link, same_row}

-- ---- links i and j, copied as x and y

module _ (a : Bytes) (A : List ℕ) (i : ℕ) (b : Bytes) (B : List ℕ) (j x y : ℕ) (p : x ≡ i) (q : y ≡ j) where
  pub link_none : x ≡ 0 → eqb y 0 ≡ same_link a A i b B j
  unfolding same_link
  link_none e = ap (λ (k : ℕ). eqb k 0) q ∙ sym (rw (eq-eqb i 0 (sym p ∙ e)))

  module _ (h : x ≡ 0 → ⊥) where
    both : same_link a A i b B j ≡ (not (eqb j 0) && same (name_in a A i) (name_in b B j))
    unfolding same_link
    both = rw (ne_eqb i 0 (λ e. h (p ∙ e)))

    pub link_one : y ≡ 0 → false ≡ same_link a A i b B j
    link_one e = sym (both ∙ rw (eq-eqb j 0 (sym q ∙ e)))

    pub link_both : (y ≡ 0 → ⊥) → (u v : Bytes) (r : Bool) → u ≡ name_in a A x → v ≡ name_in b B y → r ≡ same u v → r ≡ same_link a A i b B j
    link_both k u v r e f s = s ∙ (λ o. same ((e ∙ ap (name_in a A) p) o) ((f ∙ ap (name_in b B) q) o)) ∙ sym (both ∙ rw (ne_eqb j 0 (λ g. k (q ∙ g))))

-- ---- two records; each test as the code has it

module _ (a : Bytes) (A : List ℕ) (X : List Float) (m : ℕ) (b : Bytes) (B : List ℕ) (Y : List Float) (n : ℕ) (l : Bool) (e : l ≡ same_link a A (field_in A m 1) b B (field_in B n 1)) where
  pub modifiers_differ : not l ≡ true → false ≡ same_row a A X m b B Y n
  unfolding same_row
  modifiers_differ h = sym (rw (sym e ∙ not_true l h))

  module _ (h : not l ≡ false) (t : Bool) (f : t ≡ same_link a A (field_in A m 2) b B (field_in B n 2)) where
    pub targets_differ : not t ≡ true → false ≡ same_row a A X m b B Y n
    unfolding same_row
    targets_differ k = sym (rw (sym e ∙ not_false l h, sym f ∙ not_true t k))

    module _ (k : not t ≡ false) (z : ℕ) (g : z ≡ field_in A m 2) where
      -- an alias has no more to be compared
      pub aliases_agree : (z ≡ 0 → ⊥) → true ≡ same_row a A X m b B Y n
      unfolding same_row
      aliases_agree o = sym (rw (sym e ∙ not_false l h, sym f ∙ not_false t k, ne_eqb (field_in A m 2) 0 (λ c. o (g ∙ c))))

      module _ (o : z ≡ 0) (w : Bool) (s : w ≡ same_but_links a (record_in A m) b (record_in B n)) where
        rest : same_row a A X m b B Y n ≡ (w && same_reals (reals_of X (record_in A m)) (reals_of Y (record_in B n)))
        unfolding same_row
        rest = rw (sym e ∙ not_false l h, sym f ∙ not_false t k, eq-eqb (field_in A m 2) 0 (sym g ∙ o), sym s)

        pub rests_differ : not w ≡ true → false ≡ same_row a A X m b B Y n
        rests_differ c = sym (rest ∙ rw (not_true w c))

        pub reals_decide : not w ≡ false → (r : Bool) → r ≡ same_reals (reals_of X (record_in A m)) (reals_of Y (record_in B n)) → r ≡ same_row a A X m b B Y n
        reals_decide c r d = d ∙ sym (rest ∙ rw (not_false w c))

-- ---- a match as one number

module _ (equal : Bool) (n : ℕ) where
  pub match_none : n ≡ 0 → 0 ≡ match_with equal n
  unfolding match_with
  match_none e = sym (rw (eq-eqb n 0 e))

  module _ (h : n ≡ 0 → ⊥) (r : Bool) (e : r ≡ equal) where
    pub match_equal : r ≡ true → n + n + 1 ≡ match_with equal n
    unfolding match_with
    match_equal t = add-one (n + n) ∙ sym (rw (ne_eqb n 0 h, sym e ∙ t))

    pub match_other : r ≡ false → n + n ≡ match_with equal n
    unfolding match_with
    match_other t = sym (rw (ne_eqb n 0 h, sym e ∙ t))

-- of the record that has the name, k being its number as the code has it
pub match_there : (a : Bytes) (A : List ℕ) (X : List Float) (b : Bytes) (B : List ℕ) (Y : List Float) (m k v : ℕ) → k ≡ number_of_name b B (name_in a A m) → v ≡ match_with (same_row a A X m b B Y k) k → v ≡ match_of a A X b B Y m
unfolding match_of
match_there a A X b B Y m k v e q = q ∙ ap (λ (n : ℕ). match_with (same_row a A X m b B Y n) n) e
