-- The lowest number that passes a test, found by going up.
use mathlib.Core.Bool.{Bool, true, false, cond, false≢true}
use mathlib.Core.Logic.{◌⊎◌, inl, inr}
use mathlib.Core.Path.{◌≡◌, refl, ap, sym, ◌∙◌, subst}
use Prim.Native.Nat.{ℕ, zero, suc, ◌+◌, ◌-◌, ◌≤◌, ◌<◌}
use native.Mathlib.Numerals.{add-one}
use native.Mathlib.Omega.{arith}
use Rattle.laws.proofs.NatLaws.{le_or_lt}
use Rattle.graph.specs.Answers.{lowest, or_else}

pub lowest_more : (test : ℕ → Bool) (k : ℕ) → lowest test k ≡ 0 → test (k + 1) ≡ false → lowest test (k + 1) ≡ 0
unfolding lowest
lowest_more test k e f = simp add-one (rw (e, simp add-one at f))

pub lowest_here : (test : ℕ → Bool) (k : ℕ) → lowest test k ≡ 0 → test (k + 1) ≡ true → lowest test (k + 1) ≡ k + 1
unfolding lowest
lowest_here test k e f = simp add-one (rw (e, simp add-one at f))

stays : (test : ℕ → Bool) (k n d : ℕ) → lowest test k ≡ suc n → lowest test (d + k) ≡ suc n
unfolding lowest
stays test k n zero e = let q : k ≡ 0 + k = omega arith in subst (λ (z : ℕ). lowest test z ≡ suc n) q e
stays test k n (suc d) e =
    let q : suc (d + k) ≡ suc d + k = omega arith in
    let h : or_else (lowest test (d + k)) (cond (test (suc (d + k))) (suc (d + k)) 0) ≡ suc n = rw (stays test k n d e) in
    subst (λ (z : ℕ). lowest test z ≡ suc n) q h

pub lowest_found : (test : ℕ → Bool) (k count : ℕ) → k + 1 ≤ count → lowest test k ≡ 0 → test (k + 1) ≡ true → k + 1 ≡ lowest test count
lowest_found test k count l e f =
    let h : lowest test (k + 1) ≡ suc k = lowest_here test k e f ∙ add-one k in
    let q : count - (k + 1) + (k + 1) ≡ count = omega arith in
    sym (subst (λ (c : ℕ). lowest test c ≡ k + 1) q (stays test (k + 1) k (count - (k + 1)) h ∙ sym (add-one k)))

-- none passes where there is no lowest
pub lowest_none : (test : ℕ → Bool) (k : ℕ) → lowest test k ≡ 0 → (n : ℕ) → 0 < n → n ≤ k → test n ≡ false
unfolding lowest
lowest_none test zero e n z h = absurd (omega arith)
lowest_none test (suc k) e n z h = go (le_or_lt n k) (lowest test k) refl (test (suc k)) refl e (lowest_none test k)
  where
    go : (n ≤ k) ⊎ (k < n) → (l : ℕ) → lowest test k ≡ l → (b : Bool) → test (suc k) ≡ b → or_else l (cond b (suc k) 0) ≡ 0 → (lowest test k ≡ 0 → (n : ℕ) → 0 < n → n ≤ k → test n ≡ false) → test n ≡ false
    go c (suc l) p b q e ih = absurd (omega (arith, e))
    go c zero p true q e ih = absurd (omega (arith, e))
    go (inl l) zero p false q e ih = ih p n z l
    go (inr l) zero p false q e ih = let m : n ≡ suc k = omega arith in ap test m ∙ q

-- the lowest passes
pub lowest_passes : (test : ℕ → Bool) (k n : ℕ) → lowest test k ≡ suc n → (test (suc n) ≡ true) × (suc n ≤ k)
unfolding lowest
lowest_passes test zero n e = absurd (omega (arith, e))
lowest_passes test (suc k) n e = go (lowest test k) refl (test (suc k)) refl e (lowest_passes test k n)
  where
    go : (l : ℕ) → lowest test k ≡ l → (b : Bool) → test (suc k) ≡ b → or_else l (cond b (suc k) 0) ≡ suc n → (lowest test k ≡ suc n → (test (suc n) ≡ true) × (suc n ≤ k)) → (test (suc n) ≡ true) × (suc n ≤ suc k)
    go (suc l) p b q e ih = let h = ih (p ∙ e) in (h.0, omega (arith, h.1))
    go zero p true q e ih = (ap test (sym e) ∙ q, omega (arith, e))
    go zero p false q e ih = absurd (omega (arith, e))

-- no number that passes is below the lowest
pub lowest_least : (test : ℕ → Bool) (k n : ℕ) → 0 < n → n ≤ k → test n ≡ true → lowest test k ≤ n
lowest_least test k n z h t = go (lowest test n) refl
  where
    go : (l : ℕ) → lowest test n ≡ l → lowest test k ≤ n
    go zero q = absurd (false≢true (sym (lowest_none test n q n z (omega arith)) ∙ t))
    go (suc l) q = let e : k - n + n ≡ k = omega arith in omega (arith, sym (ap (lowest test) e) ∙ stays test n l (k - n) q, (lowest_passes test n l q).1)
