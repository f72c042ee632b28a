-- Merging two runs of neighbouring numbers gives the run of both.
use mathlib.Core.Bool.{Bool, true, false, cond, ◌&&◌, ◌||◌, or-true, or-false, false≢true}
use mathlib.Core.List.{List, [], ◌∷◌}
use mathlib.Core.Logic.{◌⊎◌, inl, inr}
use mathlib.Core.Path.{◌≡◌, refl, ap, sym, ◌∙◌}
use Prim.Native.Nat.{ℕ, suc, ◌+◌, ◌<◌, ◌≤◌}
use native.Mathlib.Omega.{arith}
use borrow.Author.Tests.{eq-eqb, ne_eqb, lt-ltb, le-ltb, ltb-true, le-leb, lt-leb, leb-true}
use lib.Dec.{eqb, ltb, leb}
use lib.ListN.{length}
use Rattle.laws.proofs.BoolLaws.{and_left, and_right}
use Rattle.laws.proofs.NatLaws.{le_or_lt}
use Rattle.name_order.specs.Merge.{merge, Run}
use Rattle.name_order.specs.Sort.{Before, Rising, has}

-- names that are not less either way are the same to every other
pub record Strict (less : ℕ → ℕ → Bool) : Type 0 where
  pub other : (x y : ℕ) → less x y ≡ true → less y x ≡ false
  pub through : (x y z : ℕ) → less x y ≡ true → less z y ≡ false → less x z ≡ true

-- ---- what stands in a list

pub has_first : (v : ℕ) (xs : List ℕ) → has v (v ∷ xs) ≡ true
unfolding has
has_first v xs = rw (eq-eqb v v refl)

pub has_later : (v x : ℕ) (xs : List ℕ) → has v xs ≡ true → has v (x ∷ xs) ≡ true
unfolding has
has_later v x xs e = rw e (or-true (eqb v x))

-- numbers after a to m, and after m to n
pub range_join : (a m n v : ℕ) → a ≤ m → m ≤ n → ((ltb a v && leb v m) || (ltb m v && leb v n)) ≡ (ltb a v && leb v n)
range_join a m n v h k = go (le_or_lt v a) (le_or_lt v m)
  where
    go : (v ≤ a) ⊎ (a < v) → (v ≤ m) ⊎ (m < v) → ((ltb a v && leb v m) || (ltb m v && leb v n)) ≡ (ltb a v && leb v n)
    go (inl l) t = rw (le-ltb a v l, le-ltb m v (omega arith))
    go (inr l) (inl t) = rw (lt-ltb a v l, le-leb v m t, le-leb v n (omega arith))
    go (inr l) (inr t) = rw (lt-ltb a v l, lt-leb v m t, lt-ltb m v t)

pub range_one : (a v : ℕ) → eqb v (suc a) ≡ (ltb a v && leb v (a + 1))
range_one a v = go (le_or_lt v a) (le_or_lt v (a + 1))
  where
    go : (v ≤ a) ⊎ (a < v) → (v ≤ a + 1) ⊎ (a + 1 < v) → eqb v (suc a) ≡ (ltb a v && leb v (a + 1))
    go (inl l) t = rw (ne_eqb v (suc a) (λ e. omega arith), le-ltb a v l)
    go (inr l) (inl t) = rw (eq-eqb v (suc a) (omega arith), lt-ltb a v l, le-leb v (a + 1) t)
    go (inr l) (inr t) = rw (ne_eqb v (suc a) (λ e. omega arith), lt-ltb a v l, lt-leb v (a + 1) t)

-- ---- a merge has what both have

module _ (less : ℕ → ℕ → Bool) where
  pub length_merge : (xs ys : List ℕ) → length (merge less xs ys) ≡ length xs + length ys
  unfolding merge
  length_merge [] ys = omega arith
  length_merge (x ∷ xs) [] = omega arith
  length_merge (x ∷ xs) (y ∷ ys) = go (less y x) (length_merge (x ∷ xs) ys) (length_merge xs (y ∷ ys))
    where
      go : (b : Bool) → length (merge less (x ∷ xs) ys) ≡ suc (length xs) + length ys → length (merge less xs (y ∷ ys)) ≡ length xs + suc (length ys) → length (cond b (y ∷ merge less (x ∷ xs) ys) (x ∷ merge less xs (y ∷ ys))) ≡ suc (length xs) + suc (length ys)
      go true h k = omega arith
      go false h k = omega arith

  pub has_merge : (v : ℕ) (xs ys : List ℕ) → has v (merge less xs ys) ≡ (has v xs || has v ys)
  unfolding merge has
  has_merge v [] ys = refl
  has_merge v (x ∷ xs) [] = sym (or-false (has v (x ∷ xs)))
  has_merge v (x ∷ xs) (y ∷ ys) = go (less y x) (has_merge v (x ∷ xs) ys) (has_merge v xs (y ∷ ys))
    where
      pull : (a b c : Bool) → (b || (a || c)) ≡ (a || (b || c))
      pull true true c = refl
      pull true false c = refl
      pull false b c = refl

      assoc : (a b c : Bool) → (a || (b || c)) ≡ ((a || b) || c)
      assoc true b c = refl
      assoc false b c = refl

      go : (b : Bool) → has v (merge less (x ∷ xs) ys) ≡ (has v (x ∷ xs) || has v ys) → has v (merge less xs (y ∷ ys)) ≡ (has v xs || has v (y ∷ ys)) → has v (cond b (y ∷ merge less (x ∷ xs) ys) (x ∷ merge less xs (y ∷ ys))) ≡ (has v (x ∷ xs) || has v (y ∷ ys))
      go true h k = ap (λ (t : Bool). eqb v y || t) h ∙ pull (has v (x ∷ xs)) (eqb v y) (has v ys)
      go false h k = ap (λ (t : Bool). eqb v x || t) k ∙ assoc (eqb v x) (has v xs) (has v (y ∷ ys))

  -- ---- a merge of two rising lists is rising

  before_merge : (z : ℕ) (xs ys : List ℕ) → Before less z xs → Before less z ys → Before less z (merge less xs ys)
  unfolding merge
  before_merge z [] ys h k = k
  before_merge z (x ∷ xs) [] h k = h
  before_merge z (x ∷ xs) (y ∷ ys) h k = go (less y x) (before_merge z (x ∷ xs) ys h k.2) (before_merge z xs (y ∷ ys) h.2 k)
    where
      go : (b : Bool) → Before less z (merge less (x ∷ xs) ys) → Before less z (merge less xs (y ∷ ys)) → Before less z (cond b (y ∷ merge less (x ∷ xs) ys) (x ∷ merge less xs (y ∷ ys)))
      go true p q = (k.0, k.1, p)
      go false p q = (h.0, h.1, q)

  module _ (s : Strict less) where
    -- what is less than the first of a rising list comes before all of it
    before_less : (y x : ℕ) (xs : List ℕ) → less y x ≡ true → Before less x xs → Before less y xs
    before_less y x [] e h = tt
    before_less y x (z ∷ xs) e h = let t : less y z ≡ true = s.through y x z e h.0 in (s.other y z t, (λ q. absurd (false≢true (sym q ∙ t))), before_less y x xs e h.2)

    -- and so does a lower number that the first is not less than
    before_lower : (x y : ℕ) (ys : List ℕ) → less y x ≡ false → Before less y ys → ((w : ℕ) → has w ys ≡ true → x < w) → Before less x ys
    before_lower x y [] e h low = tt
    before_lower x y (z ∷ ys) e h low = (go (less z x) refl, (λ q. low z (has_first z ys)), before_lower x y ys e h.2 (λ w t. low w (has_later w z ys t)))
      where
        go : (b : Bool) → less z x ≡ b → less z x ≡ false
        go true t = absurd (false≢true (sym h.0 ∙ s.through z x y t e))
        go false t = t

    rising_merge : (xs ys : List ℕ) → Rising less xs → Rising less ys → ((v w : ℕ) → has v xs ≡ true → has w ys ≡ true → v < w) → Rising less (merge less xs ys)
    unfolding merge
    rising_merge [] ys h k low = k
    rising_merge (x ∷ xs) [] h k low = h
    rising_merge (x ∷ xs) (y ∷ ys) h k low = go (less y x) refl (rising_merge (x ∷ xs) ys h k.1 (λ v w p q. low v w p (has_later w y ys q))) (rising_merge xs (y ∷ ys) h.1 k (λ v w p q. low v w (has_later v x xs p) q))
      where
        above : (w : ℕ) → has w (y ∷ ys) ≡ true → x < w
        above w q = low x w (has_first x xs) q

        go : (b : Bool) → less y x ≡ b → Rising less (merge less (x ∷ xs) ys) → Rising less (merge less xs (y ∷ ys)) → Rising less (cond b (y ∷ merge less (x ∷ xs) ys) (x ∷ merge less xs (y ∷ ys)))
        go true e p q = (before_merge y (x ∷ xs) ys (s.other y x e, (λ t. absurd (false≢true (sym t ∙ e))), before_less y x xs e h.0) k.0, p)
        go false e p q = (before_merge x xs (y ∷ ys) h.0 (e, (λ t. above y (has_first y ys)), before_lower x y ys e k.0 (λ w t. above w (has_later w y ys t))), q)

    -- ---- runs

    pub merge_run : (a : ℕ) (xs ys : List ℕ) → Run less a xs → Run less (a + length xs) ys → Run less a (merge less xs ys)
    merge_run a xs ys r t = record { all = all; rising = rising_merge xs ys r.rising t.rising low }
      where
        low : (v w : ℕ) → has v xs ≡ true → has w ys ≡ true → v < w
        low v w p q =
            let u : v ≤ a + length xs = leb-true v (a + length xs) (and_right (ltb a v) (leb v (a + length xs)) (sym (r.all v) ∙ p)) in
            let l : a + length xs < w = ltb-true (a + length xs) w (and_left (ltb (a + length xs) w) (leb w (a + length xs + length ys)) (sym (t.all w) ∙ q)) in
            omega arith

        all : (v : ℕ) → has v (merge less xs ys) ≡ (ltb a v && leb v (a + length (merge less xs ys)))
        all v =
            let n : a + length (merge less xs ys) ≡ a + length xs + length ys = omega (arith, length_merge xs ys) in
            rw (has_merge v xs ys, r.all v, t.all v, n) (range_join a (a + length xs) (a + length xs + length ys) v (omega arith) (omega arith))

  pub run_empty : (a : ℕ) → Run less a []
  unfolding has
  run_empty a = record { all = λ v. go v (le_or_lt v a); rising = tt }
    where
      go : (v : ℕ) → (v ≤ a) ⊎ (a < v) → false ≡ (ltb a v && leb v (a + 0))
      go v (inl l) = rw (le-ltb a v l)
      go v (inr l) = rw (lt-ltb a v l, lt-leb v (a + 0) (omega arith))

  pub run_one : (a : ℕ) → Run less a (suc a ∷ [])
  unfolding has
  run_one a = record { all = λ v. or-false (eqb v (suc a)) ∙ range_one a v; rising = (tt, tt) }
