-- The nearest of the numbers that one is tied to, and the first of a given length.
use mathlib.Core.Bool.{Bool, true, false, not, ◌&&◌, ◌||◌, cond, false≢true}
use mathlib.Core.List.{List, [], ◌∷◌}
use mathlib.Core.Logic.{◌⊎◌, inl, inr}
use mathlib.Core.Path.{◌≡◌, refl, ap, sym, ◌∙◌}
use Prim.Native.Nat.{ℕ, suc, ◌≤◌, ◌<◌}
use native.Mathlib.Omega.{arith}
use borrow.Author.Tests.{eqb-true, eqb-false, ltb-true, ltb-false}
use lib.Dec.{eqb, ltb}
use Rattle.holding.specs.Shortest.{first_on, nearest}

-- ---- lists whose entries are numbered from j on

abbrev pub At : (j : ℕ) → List ℕ → (i d : ℕ) → Type 0
At j [] i d = ⊥
At j (x ∷ ds) i d = ((i ≡ j) × (d ≡ x)) ⊎ At (suc j) ds i d

pub at_low : (j : ℕ) (ds : List ℕ) (i d : ℕ) → At j ds i d → j ≤ i
at_low j [] i d h = absurd h
at_low j (x ∷ ds) i d (inl h) = omega (arith, h.0)
at_low j (x ∷ ds) i d (inr h) = omega (arith, at_low (suc j) ds i d h)

module _ (tied : ℕ → ℕ → Bool) where
  -- ---- the nearest

  pub record Nearest (k j : ℕ) (ds : List ℕ) (best x : ℕ) : Type 0 where
    pub among : (x ≡ best) ⊎ ((i : ℕ) × At j ds i x × (tied k i ≡ true))
    pub below : 0 < best → (0 < x) × (x ≤ best)
    pub least : (i d : ℕ) → At j ds i d → tied k i ≡ true → 0 < d → (0 < x) × (x ≤ d)

  nearest_taken : (k j d : ℕ) (ds : List ℕ) (best x : ℕ) → 0 < d → (0 < best → d < best) → tied k j ≡ true → Nearest k (suc j) ds d x → Nearest k j (d ∷ ds) best x
  nearest_taken k j d ds best x z l t h = record { among = some h.among; below = λ b. let n = h.below z in let m = l b in (n.0, omega arith); least = each }
    where
      some : (x ≡ d) ⊎ ((i : ℕ) × At (suc j) ds i x × (tied k i ≡ true)) → (x ≡ best) ⊎ ((i : ℕ) × At j (d ∷ ds) i x × (tied k i ≡ true))
      some (inl e) = inr (j, inl (refl, e), t)
      some (inr a) = inr (a.0, inr a.1, a.2)

      each : (i e : ℕ) → At j (d ∷ ds) i e → tied k i ≡ true → 0 < e → (0 < x) × (x ≤ e)
      each i e (inl a) u y = let n = h.below z in (n.0, omega (arith, a.1))
      each i e (inr a) u y = h.least i e a u y

  nearest_passed : (k j d : ℕ) (ds : List ℕ) (best x : ℕ) → (tied k j ≡ true → 0 < d → (0 < best) × (best ≤ d)) → Nearest k (suc j) ds best x → Nearest k j (d ∷ ds) best x
  nearest_passed k j d ds best x f h = record { among = some h.among; below = h.below; least = each }
    where
      some : (x ≡ best) ⊎ ((i : ℕ) × At (suc j) ds i x × (tied k i ≡ true)) → (x ≡ best) ⊎ ((i : ℕ) × At j (d ∷ ds) i x × (tied k i ≡ true))
      some (inl e) = inl e
      some (inr a) = inr (a.0, inr a.1, a.2)

      each : (i e : ℕ) → At j (d ∷ ds) i e → tied k i ≡ true → 0 < e → (0 < x) × (x ≤ e)
      each i e (inl a) u y =
          let b = f (sym (ap (tied k) a.0) ∙ u) (omega (arith, a.1)) in
          let n = h.below b.0 in
          (n.0, omega (arith, a.1))
      each i e (inr a) u y = h.least i e a u y

  pub nearest_law : (k j : ℕ) (ds : List ℕ) (best : ℕ) → Nearest k j ds best (nearest tied k j ds best)
  unfolding nearest
  nearest_law k j [] best = record { among = inl refl; below = λ z. (z, omega arith); least = λ i d a. absurd a }
  nearest_law k j (d ∷ ds) best = go (eqb d 0) (eqb best 0) (ltb d best) (tied k j) refl refl refl refl (nearest_law k (suc j) ds)
    where
      go : (a b c t : Bool) → eqb d 0 ≡ a → eqb best 0 ≡ b → ltb d best ≡ c → tied k j ≡ t → ((y : ℕ) → Nearest k (suc j) ds y (nearest tied k (suc j) ds y))
          → Nearest k j (d ∷ ds) best (nearest tied k (suc j) ds (cond (not a && (b || c) && t) d best))
      go true b c t p q r s h = nearest_passed k j d ds best _ (λ u z. absurd (omega (arith, eqb-true d 0 p))) (h best)
      go false true c true p q r s h = nearest_taken k j d ds best _ (let n = eqb-false d 0 p in omega arith) (λ z. absurd (omega (arith, eqb-true best 0 q))) s (h d)
      go false false true true p q r s h = nearest_taken k j d ds best _ (let n = eqb-false d 0 p in omega arith) (λ z. ltb-true d best r) s (h d)
      go false true c false p q r s h = nearest_passed k j d ds best _ (λ u. absurd (false≢true (sym s ∙ u))) (h best)
      go false false true false p q r s h = nearest_passed k j d ds best _ (λ u. absurd (false≢true (sym s ∙ u))) (h best)
      go false false false t p q r s h = nearest_passed k j d ds best _ (λ u z. (let n = eqb-false best 0 q in omega arith, ltb-false d best r)) (h best)

  -- ---- the first of a given length

  pub record First (n long j : ℕ) (ds : List ℕ) (f : ℕ) : Type 0 where
    pub found : 0 < f → (d : ℕ) × At j ds f d × (suc d ≡ long) × (tied n f ≡ true)
    pub lowest : (i d : ℕ) → At j ds i d → suc d ≡ long → tied n i ≡ true → (0 < f) × (f ≤ i)

  pub first_law : (n long j : ℕ) (ds : List ℕ) → 0 < j → First n long j ds (first_on tied n long j ds)
  unfolding first_on
  first_law n long j [] z = record { found = λ l. absurd (omega arith); lowest = λ i d a. absurd a }
  first_law n long j (d ∷ ds) z = go (eqb (suc d) long) (tied n j) refl refl (first_law n long (suc j) ds (omega arith))
    where
      later : (f : ℕ) → (suc d ≡ long → tied n j ≡ true → ⊥) → First n long (suc j) ds f → First n long j (d ∷ ds) f
      later f q h = record { found = λ l. let a = h.found l in (a.0, inr a.1, a.2, a.3); lowest = each }
        where
          each : (i e : ℕ) → At j (d ∷ ds) i e → suc e ≡ long → tied n i ≡ true → (0 < f) × (f ≤ i)
          each i e (inl a) y t = absurd (q (omega (arith, a.1)) (sym (ap (tied n) a.0) ∙ t))
          each i e (inr a) y t = h.lowest i e a y t

      go : (a b : Bool) → eqb (suc d) long ≡ a → tied n j ≡ b → First n long (suc j) ds (first_on tied n long (suc j) ds) → First n long j (d ∷ ds) (cond (a && b) j (first_on tied n long (suc j) ds))
      go true true p q h = record { found = λ l. (d, inl (refl, refl), eqb-true (suc d) long p, q); lowest = λ i e a y t. (z, at_low j (d ∷ ds) i e a) }
      go true false p q h = later _ (λ y t. false≢true (sym q ∙ t)) h
      go false b p q h = later _ (λ y t. eqb-false (suc d) long p y) h
