-- The first record of a name, and the classes of a table, as the code finds them.
use mathlib.Core.Bool.{Bool, true, false, cond}
use mathlib.Core.List.{List, [], ◌∷◌, ◌++◌, append-nil}
use mathlib.Core.Logic.{◌⊎◌, inl, inr}
use mathlib.Core.Path.{◌≡◌, refl, ap, sym, ◌∙◌}
use Prim.Native.Nat.{ℕ, zero, suc, ◌+◌, ◌≤◌, ◌<◌}
use native.Mathlib.Numerals.{add-one}
use native.Mathlib.Omega.{arith}
use borrow.Author.Tests.{ne_eqb}
use lib.ListN.{length, get_or, set, drop, length-append, length-set, drop_of_length-le}
use lib.Seq.{drop-cons, set_at, append_snoc}
use Rattle.laws.proofs.NatLaws.{le_or_lt}
use Rattle.laws.specs.Bytes.{Bytes, same}
use Rattle.scene.specs.Record.{name_in}
use Rattle.ties.specs.Ties.{first_of, class_of, classes_to}

module _ (text : Bytes) (T : List ℕ) where
  -- ---- the first record of a name

  module _ (w : Bytes) where
    pub first_none : first_of text T w 0 ≡ 0
    unfolding first_of
    first_none = refl

    first_next : (m : ℕ) → first_of text T w m ≡ 0 → first_of text T w (suc m) ≡ cond (same (name_in text T (suc m)) w) (suc m) 0
    unfolding first_of
    first_next m z = rw z

    -- once found it stays
    pub first_kept : (m n : ℕ) → (first_of text T w m ≡ 0 → ⊥) → m ≤ n → first_of text T w n ≡ first_of text T w m
    unfolding first_of
    first_kept m zero h l = ap (first_of text T w) (let e : 0 ≡ m = omega arith in e)
    first_kept m (suc n) h l = go (le_or_lt m n) (first_kept m n h)
      where
        go : (m ≤ n) ⊎ (n < m) → (m ≤ n → first_of text T w n ≡ first_of text T w m) → first_of text T w (suc n) ≡ first_of text T w m
        go (inl k) ih = rw (ne_eqb (first_of text T w n) 0 (λ z. h (sym (ih k) ∙ z))) (ih k)
        go (inr k) ih = ap (first_of text T w) (let e : suc n ≡ m = omega arith in e)

  -- ---- the search for it

  module _ (n m : ℕ) (r : Bool) (v w : Bytes) (q : r ≡ same v w) (f : v ≡ name_in text T (m + 1)) (g : w ≡ name_in text T n) (z : first_of text T (name_in text T n) m ≡ 0) where
    turn : first_of text T (name_in text T n) (m + 1) ≡ cond r (m + 1) 0
    turn = rw add-one (first_next (name_in text T n) m z) ∙ sym (λ i. cond ((q ∙ (λ j. same ((f ∙ ap (name_in text T) (add-one m)) j) (g j))) i) (add-one m i) 0)

    pub class_found : r ≡ true → m < n → m + 1 ≡ class_of text T n
    unfolding class_of
    class_found e l = sym (first_kept (name_in text T n) (m + 1) n (omega (arith, here)) (omega arith) ∙ here)
      where
        here : first_of text T (name_in text T n) (m + 1) ≡ m + 1
        here = turn ∙ ap (λ (b : Bool). cond b (m + 1) 0) e

    pub not_yet : r ≡ false → first_of text T (name_in text T n) (m + 1) ≡ 0
    not_yet e = turn ∙ ap (λ (b : Bool). cond b (m + 1) 0) e

  pub class_none : (n m : ℕ) → first_of text T (name_in text T n) m ≡ 0 → m ≡ n → 0 ≡ class_of text T n
  unfolding class_of
  class_none n m z e = sym z ∙ ap (first_of text T (name_in text T n)) e

  -- ---- the classes

  pub classes_length : (n : ℕ) → length (classes_to text T n) ≡ n
  unfolding classes_to
  classes_length zero = refl
  classes_length (suc n) = omega (arith, length-append (classes_to text T n) (class_of text T (suc n) ∷ []), classes_length n)

  -- the first i are written over a table
  pub record Classed (old new : List ℕ) (i : ℕ) : Type 0 where
    pub most : i ≤ length old
    pub size : length new ≡ length old
    pub done : new ≡ classes_to text T i ++ drop i old

  pub classed_none : (old : List ℕ) → Classed old old 0
  unfolding classes_to
  classed_none old = record { most = omega arith; size = refl; done = refl }

  module _ (old new : List ℕ) (i : ℕ) (h : Classed old new i) where
    pub classed_more : (v : ℕ) → v ≡ class_of text T (i + 1) → i < length old → Classed old (set new i v) (i + 1)
    unfolding classes_to
    classed_more v e l = record { most = omega arith; size = length-set new i v ∙ h.size; done = stored }
      where
        C : List ℕ
        C = classes_to text T i

        stored : set new i v ≡ classes_to text T (i + 1) ++ drop (i + 1) old
        stored =
            ap (λ (t : List ℕ). set t i v) (h.done ∙ ap (λ (t : List ℕ). C ++ t) (drop-cons old i 0 l))
            ∙ set_at C (get_or old i 0) (drop (suc i) old) v i (classes_length i)
            ∙ sym (append_snoc C v (drop (suc i) old))
            ∙ (λ j. (C ++ (e ∙ ap (class_of text T) (add-one i)) j ∷ []) ++ drop (suc i) old)
            ∙ (λ j. classes_to text T (sym (add-one i) j) ++ drop (sym (add-one i) j) old)

    pub classed_all : length new ≤ i → new ≡ classes_to text T (length old)
    classed_all l =
        let e : i ≡ length old = omega (arith, h.most, h.size) in
        h.done ∙ (λ j. classes_to text T (e j) ++ drop (e j) old) ∙ ap (λ (t : List ℕ). classes_to text T (length old) ++ t) (drop_of_length-le old {i = length old} (omega arith)) ∙ append-nil (classes_to text T (length old))
