-- The choice of the next number, place by place of the table.
use mathlib.Core.Bool.{Bool, true, false, not, cond, ◌&&◌, ◌||◌, false≢true}
use mathlib.Core.List.{List, ◌∷◌}
use mathlib.Core.Logic.{◌⊎◌, inl, inr}
use mathlib.Core.Path.{◌≡◌, refl, ap, sym, ◌∙◌, subst}
use Prim.Native.Nat.{ℕ, zero, suc, ◌+◌, ◌-◌, ◌<◌, ◌≤◌}
use native.Mathlib.Omega.{arith}
use borrow.Author.Tests.{eqb-true, eqb-false, eq-eqb, ne_eqb, ltb-true, lt-ltb}
use lib.Dec.{eqb, ltb}
use lib.ListN.{length, get_or, set, length-set}
use lib.Seq.{get_or-set_same, get_or-set_other}
use Rattle.laws.proofs.BoolLaws.{not_false, not_true, or_false_left, or_false_right}
use Rattle.laws.proofs.NatLaws.{le_or_lt}
use Rattle.grouping.specs.Code.{Choosing, Chose, Kept, Known, Looked, Waiting, left, left_from, passed, placed}
use Rattle.grouping.specs.Grouped.{better, choice, free}

and_false : (b : Bool) → (b && false) ≡ false
and_false true = refl
and_false false = refl

-- ---- what may come

module _ (held : ℕ → ℕ → Bool) (type : ℕ → ℕ) (p : ℕ → Bool) where
  passed_apart : (i k : ℕ) → passed held p i k ≡ true → p i ≡ false → held i k ≡ false
  unfolding passed
  passed_apart i k e f = go (p i) f e
    where
      go : (b : Bool) → b ≡ false → (b || not (held i k)) ≡ true → held i k ≡ false
      go true f e = absurd (false≢true (sym f))
      go false f e = not_true (held i k) e

  -- nothing before k holds it back
  free_clear : (a m k : ℕ) → ((i : ℕ) → a < i → i < k → passed held p i k ≡ true) → free held (left_from p a m) k ≡ true
  unfolding free left_from
  free_clear a zero k f = refl
  free_clear a (suc m) k f = go (p (a + 1)) refl (free_clear (a + 1) m k (λ i h l. f i (omega arith) l))
    where
      apart : p (a + 1) ≡ false → (t : Bool) → ltb (a + 1) k ≡ t → (t && held (a + 1) k) ≡ false
      apart e true l = passed_apart (a + 1) k (f (a + 1) (omega arith) (ltb-true (a + 1) k l)) e
      apart e false l = refl

      go : (b : Bool) → p (a + 1) ≡ b → free held (left_from p (a + 1) m) k ≡ true → free held (cond b (left_from p (a + 1) m) ((a + 1) ∷ left_from p (a + 1) m)) k ≡ true
      go true e h = h
      go false e h = λ t. not (apart e (ltb (a + 1) k) refl t) && h t

  -- i holds k back
  free_held : (a m i k : ℕ) → a < i → i ≤ a + m → i < k → passed held p i k ≡ false → free held (left_from p a m) k ≡ false
  unfolding free left_from passed
  free_held a zero i k h l n e = absurd (omega arith)
  free_held a (suc m) i k h l n e = go (λ q. free_held (a + 1) m i k q (omega arith) n e) (le_or_lt i (a + 1))
    where
      whole : Bool → List ℕ
      whole b = cond b (left_from p (a + 1) m) ((a + 1) ∷ left_from p (a + 1) m)

      here : i ≡ a + 1 → free held (whole (p (a + 1))) k ≡ false
      here q = rw (subst (λ (j : ℕ). p j ≡ false) q (or_false_left (p i) (not (held i k)) e), lt-ltb (a + 1) k (omega (arith, n, q)), subst (λ (j : ℕ). held j k ≡ true) q (not_false (held i k) (or_false_right (p i) (not (held i k)) e)))

      later : (b : Bool) → free held (left_from p (a + 1) m) k ≡ false → free held (whole b) k ≡ false
      later true f = f
      later false f = rw f (and_false (not (ltb (a + 1) k && held (a + 1) k)))

      go : (a + 1 < i → free held (left_from p (a + 1) m) k ≡ false) → (i ≤ a + 1) ⊎ (a + 1 < i) → free held (whole (p (a + 1))) k ≡ false
      go f (inl q) = here (omega arith)
      go f (inr q) = later (p (a + 1)) (f q)

-- ---- the table

module _ (S : List ℕ) (k r : ℕ) (l : k < length S) where
  -- at a place of the new table stands what was put there, or what stood in the old one
  pub set_cases : (P : ℕ → ℕ → Type 0) → P k r → ((j : ℕ) → (j ≡ k → ⊥) → P j (get_or S j 0)) → (j : ℕ) → P j (get_or (set S k r) j 0)
  set_cases P here other j = go (eqb j k) refl
    where
      go : (b : Bool) → eqb j k ≡ b → P j (get_or (set S k r) j 0)
      go true e = let q = eqb-true j k e in subst (λ (m : ℕ). P m (get_or (set S k r) m 0)) (sym q) (subst (P k) (sym (get_or-set_same S k r 0 l)) here)
      go false e = subst (P j) (sym (get_or-set_other S k j r 0 (eqb-false j k e))) (other j (eqb-false j k e))

  pub set_placed : r < k → (get_or S k 0 ≡ k → ⊥) → (j : ℕ) → placed (set S k r) j ≡ placed S j
  unfolding placed
  set_placed h n = set_cases (λ j x. eqb x j ≡ eqb (get_or S j 0) j) (ne_eqb r k (λ e. omega arith) ∙ sym (ne_eqb (get_or S k 0) k n)) (λ j q. refl)

module _ (held : ℕ → ℕ → Bool) where
  pub kept_none : (S : List ℕ) → Known held S → Kept held S S
  kept_none S k = record { size = refl; same = λ j. refl; known = k }

  pub kept_waiting : (S S' : List ℕ) (k : ℕ) → Kept held S S' → k < length S' → (get_or S' k 0 ≡ k → ⊥) → Waiting held S' k
  kept_waiting S S' k m l n = record { known = m.known; within = l; waits = omega (arith, m.known.low k) }

  pub kept_looked : (S S' : List ℕ) (k r : ℕ) → Kept held S S' → k < length S' → (get_or S' k 0 ≡ k → ⊥) → Looked held S' k r → Kept held S (set S' k r)
  kept_looked S S' k r m l n h = record { size = length-set S' k r ∙ m.size; same = λ j. e j ∙ m.same j; known = record { low = set_cases S' k r l (λ j x. x ≤ j) (omega (arith, h.looking.within)) (λ j q. m.known.low j); clear = clear } }
    where
      e : (j : ℕ) → placed (set S' k r) j ≡ placed S' j
      e = set_placed S' k r l h.looking.within n

      clear : (i j : ℕ) → 0 < i → i ≤ get_or (set S' k r) j 0 → get_or (set S' k r) j 0 < j → passed held (placed (set S' k r)) i j ≡ true
      clear i j z = subst (λ (p : ℕ → Bool). i ≤ get_or (set S' k r) j 0 → get_or (set S' k r) j 0 < j → passed held p i j ≡ true) (λ t v. sym (e v) t) (set_cases S' k r l (λ j x. i ≤ x → x < j → passed held (placed S') i j ≡ true) (λ a b. h.looking.clear i z a) (λ j q a b. m.known.clear i j z a b) j)

-- ---- turns

left_on : (p : ℕ → Bool) (k n : ℕ) (b : Bool) → k < n → p (k + 1) ≡ b → left_from p k (n - k) ≡ cond b (left_from p (k + 1) (n - (k + 1))) ((k + 1) ∷ left_from p (k + 1) (n - (k + 1)))
unfolding left_from
left_on p k n b h e = ap (left_from p k) (let z : n - k ≡ suc (n - (k + 1)) = omega arith in z) ∙ ap (λ (b : Bool). cond b (left_from p (k + 1) (n - (k + 1))) ((k + 1) ∷ left_from p (k + 1) (n - (k + 1)))) e

module _ (held : ℕ → ℕ → Bool) (type : ℕ → ℕ) (last : ℕ) where
  pub choosing_none : (S : List ℕ) → Known held S → Choosing held type last S S 0 0
  choosing_none S h = record { kept = kept_none held S h; within = omega arith; goes = ap (λ (n : ℕ). choice held type last (left S) 0 (left_from (placed S) 0 n)) (omega arith) }

  pub choosing_all : (S S' : List ℕ) (best k : ℕ) → Choosing held type last S S' best k → length S' ≤ k + 1 → Chose held type last S S' best
  unfolding choice left_from
  choosing_all S S' best k m h = record { kept = m.kept; answer = ap (λ (n : ℕ). choice held type last (left S) best (left_from (placed S) k n)) (let z : 0 ≡ length S - 1 - k = omega (arith, m.kept.size) in z) ∙ m.goes }

  module _ (S S' : List ℕ) (best k : ℕ) (m : Choosing held type last S S' best k) (l : k + 1 < length S') where
    more : k < length S - 1
    more = omega (arith, m.kept.size)

    pub choosing_placed : get_or S' (k + 1) 0 ≡ k + 1 → Choosing held type last S S' best (k + 1)
    unfolding placed
    choosing_placed e = record { kept = m.kept; within = omega (arith, more); goes = ap (choice held type last (left S) best) (sym (left_on (placed S) k (length S - 1) true more (sym (m.kept.same (k + 1)) ∙ eq-eqb (get_or S' (k + 1) 0) (k + 1) e))) ∙ m.goes }

    module _ (r : ℕ) (w : get_or S' (k + 1) 0 ≡ k + 1 → ⊥) (h : Looked held S' (k + 1) r) where
      -- the number that is looked at becomes the best, or does not
      choosing_on : (b : Bool) → (free held (left S) (k + 1) && better type last best (k + 1)) ≡ b → Choosing held type last S (set S' (k + 1) r) (cond b (k + 1) best) (k + 1)
      unfolding choice placed
      choosing_on b e = record { kept = kept_looked held S S' (k + 1) r m.kept l w h; within = omega (arith, more); goes = ap (λ (b : Bool). choice held type last (left S) (cond b (k + 1) best) (left_from (placed S) (k + 1) (length S - 1 - (k + 1)))) (sym e) ∙ ap (choice held type last (left S) best) (sym (left_on (placed S) k (length S - 1) false more (sym (m.kept.same (k + 1)) ∙ ne_eqb (get_or S' (k + 1) 0) (k + 1) w))) ∙ m.goes }

      -- what holds a number back is the same in both tables
      seen_same : (i : ℕ) → passed held (placed S') i (k + 1) ≡ passed held (placed S) i (k + 1)
      seen_same i = ap (λ (p : ℕ → Bool). passed held p i (k + 1)) (λ t j. m.kept.same j t)

      pub choosing_held : r + 1 < k + 1 → Choosing held type last S (set S' (k + 1) r) best (k + 1)
      choosing_held n = choosing_on false (ap (λ (b : Bool). b && better type last best (k + 1)) (free_held held type (placed S) 0 (length S - 1) (r + 1) (k + 1) (omega arith) (omega (arith, m.kept.size)) n (sym (seen_same (r + 1)) ∙ h.stops n)))

      pub choosing_free : (b : Bool) → k + 1 ≤ r + 1 → better type last best (k + 1) ≡ b → Choosing held type last S (set S' (k + 1) r) (cond b (k + 1) best) (k + 1)
      unfolding better
      choosing_free b n e = choosing_on b ((λ t. free_clear held type (placed S) 0 (length S - 1) (k + 1) (λ i z a. sym (seen_same i) ∙ h.looking.clear i z (omega arith)) t && better type last best (k + 1)) ∙ e)
