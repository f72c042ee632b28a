-- The types of a number, of none and of several.
use mathlib.Core.Logic.{◌⊎◌, inl, inr}
use mathlib.Core.Path.{◌≡◌, refl, sym, ap, ◌∙◌}
use Prim.Native.Nat.{ℕ, zero, suc, ◌+◌, ◌≤◌, ◌<◌}
use native.Mathlib.Omega.{arith}
use lib.ListN.{get_or-eq_default}
use Rattle.laws.proofs.NatLaws.{le_or_lt}
use Rattle.scene.specs.Types.{kind_of, no_type, types}

-- the types of one number have the same rules
module _ {t k : ℕ} (e : t ≡ k) where
  pub strings_is : (kind_of k).strings ≡ (kind_of t).strings
  strings_is = sym (ap (λ (n : ℕ). (kind_of n).strings) e)

  pub reals_is : (kind_of k).reals ≡ (kind_of t).reals
  reals_is = sym (ap (λ (n : ℕ). (kind_of n).reals) e)

-- f gives r at each of n numbers from `low` on
abbrev pub Alike : {A : Type 0} → (ℕ → A) → A → (low n : ℕ) → Type 0
Alike f r low zero = Unit {0}
Alike f r low (suc n) = (r ≡ f low) × Alike f r (suc low) n

pub between : {A : Type 0} (f : ℕ → A) (r : A) (low n : ℕ) → Alike f r low n → (t : ℕ) → low ≤ t → t < low + n → r ≡ f t
between f r low zero a t l h = absurd (omega arith)
between f r low (suc n) a t l h = go (le_or_lt t low) (λ m. between f r (suc low) n a.1 t m (omega arith))
  where
    go : (t ≤ low) ⊎ (low < t) → (low < t → r ≡ f t) → r ≡ f t
    go (inl m) later = let e : low ≡ t = omega arith in a.0 ∙ ap f e
    go (inr m) later = later m
