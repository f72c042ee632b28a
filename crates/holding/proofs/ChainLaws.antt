-- Chains: where the first link goes, and one link more.
use mathlib.Core.Bool.{Bool, true}
use mathlib.Core.Logic.{◌⊎◌, inl, inr}
use mathlib.Core.Path.{◌≡◌, refl, sym, subst₂}
use Prim.Native.Nat.{ℕ, suc, ◌≤◌, ◌<◌}
use native.Mathlib.Omega.{arith}
use Rattle.holding.specs.Chain.{Chain, link, on}

module _ (tied : ℕ → ℕ → Bool) where
  -- a chain with so many links leads from k to m, or k is m
  abbrev pub Leads : (links k m : ℕ) → Type 0
  Leads j k m = ((k ≡ m) × (j ≡ 0)) ⊎ Chain tied j k m

  pub chain_rises : {j k m : ℕ} → Chain tied j k m → k < m
  chain_rises (link l e) = l
  chain_rises (on i l e c) = omega (arith, chain_rises c)

  pub chain_on : (k i j m : ℕ) → k < i → tied k i ≡ true → Leads j i m → Chain tied (suc j) k m
  chain_on k i j m l e (inl h) = subst₂ (λ (a b : ℕ). Chain tied (suc a) k b) (sym h.1) h.0 (link l e)
  chain_on k i j m l e (inr c) = on i l e c

  pub record Step (j k m : ℕ) : Type 0 where
    pub to : ℕ
    pub less : ℕ
    pub one : j ≡ suc less
    pub above : k < to
    pub bound : tied k to ≡ true
    pub rest : Leads less to m

  pub chain_step : {j k m : ℕ} → Chain tied j k m → Step j k m
  chain_step (link {m = m} l e) = record { to = m; less = 0; one = refl; above = l; bound = e; rest = inl (refl, refl) }
  chain_step (on {links = j} k l e c) = record { to = k; less = j; one = refl; above = l; bound = e; rest = inr c }

  pub leads_within : (j i m : ℕ) → Leads j i m → i ≤ m
  leads_within j i m (inl h) = omega (arith, h.0)
  leads_within j i m (inr c) = omega (arith, chain_rises c)

  pub leads_chain : (j k m : ℕ) → k < m → Leads j k m → Chain tied j k m
  leads_chain j k m l (inl h) = absurd (omega (arith, h.0))
  leads_chain j k m l (inr c) = c

  pub chain_last : {j k i : ℕ} (m : ℕ) → Chain tied j k i → i < m → tied i m ≡ true → Chain tied (suc j) k m
  chain_last {i} m (link l e) h t = on i l e (link h t)
  chain_last m (on x l e c) h t = on x l e (chain_last m c h t)
