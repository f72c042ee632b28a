-- Laws on numbers: an order holds or its reverse does, and so their tests; a number cut to a limit; what holds of every successor holds of a number that is not 0.
use mathlib.Core.Bool.{Bool, true, false, not}
use mathlib.Core.Logic.{◌⊎◌, inl, inr, ⊎_elim}
use mathlib.Core.Path.{◌≡◌, refl, ap, ◌∙◌, subst}
use Prim.Native.Nat.{ℕ, zero, suc, ◌-◌, ◌≤◌, ◌<◌, min}
use native.Mathlib.Nat.{min-eq_left, min-eq_right}
use native.Mathlib.Omega.{arith}
use borrow.Author.Tests.{le-ltb, leb-false, leb-true, lt-ltb}
use lib.Dec.{leb, ltb}

pub le_or_lt : (a b : ℕ) → (a ≤ b) ⊎ (b < a)
le_or_lt a b = go (leb a b) refl
  where
    go : (t : Bool) → leb a b ≡ t → (a ≤ b) ⊎ (b < a)
    go true e = inl (leb-true a b e)
    go false e = inr (leb-false a b e)

pub ltb_not : (a b : ℕ) → ltb a b ≡ not (leb b a)
ltb_not a b = go (leb b a) refl
  where
    go : (t : Bool) → leb b a ≡ t → ltb a b ≡ not t
    go true e = le-ltb a b (leb-true b a e)
    go false e = lt-ltb a b (leb-false b a e)

-- where every number past a limit gives what the limit gives, a number cut to the limit gives what the number gives
pub cut : {A : Type 0} (f : ℕ → A) (n most : ℕ) → (most < n → f most ≡ f n) → f (min n most) ≡ f n
cut f n most past = ⊎_elim (λ h. ap f (min-eq_left h)) (λ h. let l : most ≤ n = omega arith in ap f (min-eq_right l) ∙ past h) (le_or_lt n most)

-- a fact of every successor and its predecessor, at a number that is not 0
pub nonzero : (P : ℕ → ℕ → Type 0) → ((k : ℕ) → P (suc k) k) → (n : ℕ) → (n ≡ 0 → ⊥) → P n (n - 1)
nonzero P h zero q = absurd (q refl)
nonzero P h (suc k) q = let e : k ≡ suc k - 1 = omega arith in subst (P (suc k)) e (h k)
