-- `sorted` is in order, and no other list is; names by bytes can be put in order.
use mathlib.Core.Bool.{Bool, true, false, cond, ◌&&◌, ◌||◌, false≢true}
use mathlib.Core.List.{List, [], ◌∷◌}
use mathlib.Core.Path.{◌≡◌, refl, ap, sym, ◌∙◌, subst}
use Prim.Native.Nat.{ℕ, zero, suc, ◌+◌, ◌<◌}
use native.Mathlib.Omega.{arith}
use borrow.Author.Tests.{eqb-true}
use lib.Dec.{eqb, ltb, leb}
use lib.ListN.{length}
use Rattle.keys.proofs.OrderLaws.{eqb_sym, lower_one, lower_transitive}
use Rattle.keys.specs.Key.{lower}
use Rattle.keys.specs.Properties.{OneOf, first, second, third}
use Rattle.laws.proofs.BytesLaws.{same_eq}
use Rattle.laws.specs.Bytes.{Bytes, same}
use Rattle.scene.specs.Record.{name_in}
use Rattle.name_order.proofs.MergeLaws.{Strict, has_first, length_merge, merge_run, run_empty, run_one}
use Rattle.name_order.specs.Merge.{merge, Run}
use Rattle.name_order.specs.Sort.{earlier, insert, sorted, Before, Rising, has, Sorted}

module _ (less : ℕ → ℕ → Bool) where
  -- ---- a rising list is known by what stands in it

  pub before_has : (x v : ℕ) (ys : List ℕ) → Before less x ys → has v ys ≡ true → (less v x ≡ false) × (less x v ≡ false → x < v)
  unfolding has
  before_has x v [] h e = absurd (false≢true e)
  before_has x v (y ∷ ys) h e = go (eqb v y) refl (before_has x v ys h.2) e
    where
      go : (b : Bool) → eqb v y ≡ b → (has v ys ≡ true → (less v x ≡ false) × (less x v ≡ false → x < v)) → (b || has v ys) ≡ true → (less v x ≡ false) × (less x v ≡ false → x < v)
      go true q ih t = subst (λ (z : ℕ). (less z x ≡ false) × (less x z ≡ false → x < z)) (sym (eqb-true v y q)) (h.0, h.1)
      go false q ih t = ih t

  pub before_lacks : (x : ℕ) (xs : List ℕ) → Before less x xs → has x xs ≡ false
  before_lacks x xs h = go (has x xs) refl
    where
      go : (b : Bool) → has x xs ≡ b → has x xs ≡ false
      go true e = let p = before_has x x xs h e in absurd (omega (arith, p.1 p.0))
      go false e = e

  -- the rest of two rising lists with one first entry
  rest : (x : ℕ) (xs ys : List ℕ) → Before less x xs → Before less x ys → (v : ℕ) → has v (x ∷ xs) ≡ has v (x ∷ ys) → has v xs ≡ has v ys
  unfolding has
  rest x xs ys h k v e = go (eqb v x) refl e
    where
      go : (b : Bool) → eqb v x ≡ b → (b || has v xs) ≡ (b || has v ys) → has v xs ≡ has v ys
      go true q t = subst (λ (z : ℕ). has z xs ≡ has z ys) (sym (eqb-true v x q)) (before_lacks x xs h ∙ sym (before_lacks x ys k))
      go false q t = t

  -- a number that stands behind another
  pub behind : (x y : ℕ) (ys : List ℕ) → eqb x y ≡ false → has x (y ∷ ys) ≡ true → has x ys ≡ true
  unfolding has
  behind x y ys q e = rw q at e

  pub rising_same : (xs ys : List ℕ) → Rising less xs → Rising less ys → ((v : ℕ) → has v xs ≡ has v ys) → xs ≡ ys
  unfolding has
  rising_same [] [] h k e = refl
  rising_same [] (y ∷ ys) h k e = absurd (false≢true (e y ∙ has_first y ys))
  rising_same (x ∷ xs) [] h k e = absurd (false≢true (sym (e x) ∙ has_first x xs))
  rising_same (x ∷ xs) (y ∷ ys) h k e = go (eqb x y) refl (rising_same xs ys h.1 k.1)
    where
      go : (b : Bool) → eqb x y ≡ b → (((v : ℕ) → has v xs ≡ has v ys) → xs ≡ ys) → x ∷ xs ≡ y ∷ ys
      go true q ih =
          let p : x ≡ y = eqb-true x y q in
          let f : (v : ℕ) → has v (x ∷ xs) ≡ has v (x ∷ ys) = λ v. e v ∙ ap (λ (z : ℕ). has v (z ∷ ys)) (sym p) in
          λ i. p i ∷ ih (λ v. rest x xs ys h.0 (subst (λ (z : ℕ). Before less z ys) (sym p) k.0) v (f v)) i
      go false q ih =
          let l = before_has y x ys k.0 (behind x y ys q (sym (e x) ∙ has_first x xs)) in
          let m = before_has x y xs h.0 (behind y x xs (eqb_sym y x ∙ q) (e y ∙ has_first y ys)) in
          absurd (omega (arith, l.1 m.0, m.1 l.0))

  pub run_same : (a : ℕ) (xs ys : List ℕ) → Run less a xs → Run less a ys → length xs ≡ length ys → xs ≡ ys
  run_same a xs ys r s e = rising_same xs ys r.rising s.rising (λ v. r.all v ∙ ap (λ (n : ℕ). ltb a v && leb v (a + n)) e ∙ sym (s.all v))

  -- ---- `sorted` is the list in order

  -- to put a number in is to merge it in
  insert_merge : (x : ℕ) (ys : List ℕ) → merge less ys (x ∷ []) ≡ insert less x ys
  unfolding insert merge
  insert_merge x [] = refl
  insert_merge x (y ∷ ys) = go (less x y) (insert_merge x ys)
    where
      go : (b : Bool) → merge less ys (x ∷ []) ≡ insert less x ys → cond b (x ∷ merge less (y ∷ ys) []) (y ∷ merge less ys (x ∷ [])) ≡ cond b (x ∷ y ∷ ys) (y ∷ insert less x ys)
      go true h = refl
      go false h = ap {B = List ℕ} (λ (zs : List ℕ). y ∷ zs) h

  pub sorted_length : (n : ℕ) → length (sorted less n) ≡ n
  unfolding sorted
  sorted_length zero = refl
  sorted_length (suc n) = ap length (sym (insert_merge (suc n) (sorted less n))) ∙ omega (arith, length_merge less (sorted less n) (suc n ∷ []), sorted_length n)

  module _ (s : Strict less) where
    sorted_run : (n : ℕ) → Run less 0 (sorted less n)
    unfolding sorted
    sorted_run zero = run_empty less 0
    sorted_run (suc n) =
        let e : n ≡ 0 + length (sorted less n) = omega (arith, sorted_length n) in
        subst (Run less 0) (insert_merge (suc n) (sorted less n)) (merge_run less s 0 (sorted less n) (suc n ∷ []) (sorted_run n) (subst (λ (a : ℕ). Run less a (suc n ∷ [])) e (run_one less n)))

    pub run_sorted : (o : List ℕ) → Run less 0 o → o ≡ sorted less (length o)
    run_sorted o r = run_same 0 o (sorted less (length o)) r (sorted_run (length o)) (sym (sorted_length (length o)))

    pub sorted_law : (n : ℕ) → Sorted less n (sorted less n)
    sorted_law n =
        let e : 0 + length (sorted less n) ≡ n = omega (arith, sorted_length n) in
        record { count = sorted_length n; all = λ v. (sorted_run n).all v ∙ ap (λ (m : ℕ). ltb 0 v && leb v m) e; rising = (sorted_run n).rising }

    pub sorted_only : (n : ℕ) (o : List ℕ) → Sorted less n o → o ≡ sorted less n
    sorted_only n o h = rising_same o (sorted less n) h.rising (sorted_run n).rising (λ v. h.all v ∙ sym ((sorted_law n).all v))

-- ---- names by bytes

lower_through : (x y z : Bytes) → lower x y ≡ true → lower z y ≡ false → lower x z ≡ true
lower_through x y z e f = go (lower y z) (same y z) (lower z y) (lower_one y z) refl refl refl
  where
    go : (l b m : Bool) → OneOf l b m → lower y z ≡ l → same y z ≡ b → lower z y ≡ m → lower x z ≡ true
    go true false false first u v w = lower_transitive x y z e u
    go false true false second u v w = subst (λ (n : Bytes). lower x n ≡ true) (same_eq y z v) e
    go false false false x13 u v w = elim x13 [ ]
    go false true true x14 u v w = elim x14 [ ]
    go true false true x14 u v w = elim x14 [ ]
    go true true m x11 u v w = elim x11 [ ]
    go false false true third u v w = absurd (false≢true (sym f ∙ w))

pub earlier_strict : (text : Bytes) (records : List ℕ) → Strict (earlier text records)
unfolding earlier
earlier_strict text records = record { other = λ x y e. other (lower_one (name_in text records x) (name_in text records y)) e; through = λ x y z e f. lower_through (name_in text records x) (name_in text records y) (name_in text records z) e f }
  where
    other : {a b c : Bool} → OneOf a b c → a ≡ true → c ≡ false
    other first e = refl
    other second e = refl
    other third e = sym e

-- by their names, the sorted numbers are in order, and no other list is
pub names_sorted : (text : Bytes) (records : List ℕ) (n : ℕ) → Sorted (earlier text records) n (sorted (earlier text records) n)
names_sorted text records n = sorted_law (earlier text records) (earlier_strict text records) n

pub names_only : (text : Bytes) (records : List ℕ) (n : ℕ) (o : List ℕ) → Sorted (earlier text records) n o → o ≡ sorted (earlier text records) n
names_only text records n o h = sorted_only (earlier text records) (earlier_strict text records) n o h
