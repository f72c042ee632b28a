-- The test decides the ways.
use mathlib.Core.Bool.{Bool, true, ◌&&◌}
use mathlib.Core.Logic.{◌⊎◌, inl, inr}
use mathlib.Core.Path.{◌≡◌, subst}
use Prim.Native.Nat.{ℕ, zero, suc, ◌≤◌, ◌<◌}
use native.Mathlib.Omega.{arith}
use Rattle.graph.specs.Paths.{Way, one, on, via}
use Rattle.laws.proofs.BoolLaws.{and_left, and_right}
use Rattle.laws.proofs.NatLaws.{le_or_lt}
use Rattle.graph.proofs.GraphLaws.{or_inv, or_left, or_right, and_of}

module _ (link : ℕ → ℕ → Bool) (pass : ℕ → Bool) where
  pub trans : {a b : ℕ} (c : ℕ) → pass c ≡ true → Way link pass a c → Way link pass c b → Way link pass a b
  trans c p (one e) y = on c e p y
  trans c p (on d e q x) y = on d e q (trans c p x y)

  three : (k a b : ℕ) → via link pass (suc k) a b ≡ true → (via link pass k a b ≡ true) ⊎ ((pass (suc k) ≡ true) × (via link pass k a (suc k) ≡ true) × (via link pass k (suc k) b ≡ true))
  unfolding via
  three k a b e = go (or_inv (via link pass k a b) (pass (suc k) && (via link pass k a (suc k) && via link pass k (suc k) b)) e)
    where
      go : (via link pass k a b ≡ true) ⊎ ((pass (suc k) && (via link pass k a (suc k) && via link pass k (suc k) b)) ≡ true) → (via link pass k a b ≡ true) ⊎ ((pass (suc k) ≡ true) × (via link pass k a (suc k) ≡ true) × (via link pass k (suc k) b ≡ true))
      go (inl h) = inl h
      go (inr h) =
          let both = and_right (pass (suc k)) (via link pass k a (suc k) && via link pass k (suc k) b) h in
          inr (and_left (pass (suc k)) (via link pass k a (suc k) && via link pass k (suc k) b) h, and_left (via link pass k a (suc k)) (via link pass k (suc k) b) both, and_right (via link pass k a (suc k)) (via link pass k (suc k) b) both)

  up : (k a b : ℕ) → via link pass k a b ≡ true → via link pass (suc k) a b ≡ true
  unfolding via
  up k a b e = or_left (via link pass k a b) _ e

  past : (k a b : ℕ) → pass (suc k) ≡ true → via link pass k a (suc k) ≡ true → via link pass k (suc k) b ≡ true → via link pass (suc k) a b ≡ true
  unfolding via
  past k a b p x y = or_right (via link pass k a b) (pass (suc k) && (via link pass k a (suc k) && via link pass k (suc k) b)) (and_of (pass (suc k)) (via link pass k a (suc k) && via link pass k (suc k) b) p (and_of (via link pass k a (suc k)) (via link pass k (suc k) b) x y))

  -- from and to the highest, it need not lie in between
  to_top : (k a : ℕ) → via link pass (suc k) a (suc k) ≡ true → via link pass k a (suc k) ≡ true
  to_top k a e = go (three k a (suc k) e)
    where
      go : (via link pass k a (suc k) ≡ true) ⊎ ((pass (suc k) ≡ true) × (via link pass k a (suc k) ≡ true) × (via link pass k (suc k) (suc k) ≡ true)) → via link pass k a (suc k) ≡ true
      go (inl h) = h
      go (inr h) = h.1

  from_top : (k b : ℕ) → via link pass (suc k) (suc k) b ≡ true → via link pass k (suc k) b ≡ true
  from_top k b e = go (three k (suc k) b e)
    where
      go : (via link pass k (suc k) b ≡ true) ⊎ ((pass (suc k) ≡ true) × (via link pass k (suc k) (suc k) ≡ true) × (via link pass k (suc k) b ≡ true)) → via link pass k (suc k) b ≡ true
      go (inl h) = h
      go (inr h) = h.2

  via_trans : (k a c b : ℕ) → 0 < c → c ≤ k → pass c ≡ true → via link pass k a c ≡ true → via link pass k c b ≡ true → via link pass k a b ≡ true
  via_trans zero a c b p l q x y = absurd (omega arith)
  via_trans (suc k) a c b p l q x y = go (le_or_lt c k) (λ a b h x y. via_trans k a c b p h q x y)
    where
      Sum : ℕ → ℕ → Type 0
      Sum a b = (via link pass k a b ≡ true) ⊎ ((pass (suc k) ≡ true) × (via link pass k a (suc k) ≡ true) × (via link pass k (suc k) b ≡ true))

      four : ((a b : ℕ) → via link pass k a c ≡ true → via link pass k c b ≡ true → via link pass k a b ≡ true) → (via link pass k a c ≡ true) ⊎ ((pass (suc k) ≡ true) × (via link pass k a (suc k) ≡ true) × (via link pass k (suc k) c ≡ true)) → (via link pass k c b ≡ true) ⊎ ((pass (suc k) ≡ true) × (via link pass k c (suc k) ≡ true) × (via link pass k (suc k) b ≡ true)) → via link pass (suc k) a b ≡ true
      four t (inl h) (inl i) = up k a b (t a b h i)
      four t (inl h) (inr i) = past k a b i.0 (t a (suc k) h i.1) i.2
      four t (inr h) (inl i) = past k a b h.0 h.1 (t (suc k) b h.2 i)
      four t (inr h) (inr i) = past k a b h.0 h.1 i.2

      go : (c ≤ k) ⊎ (k < c) → ((a b : ℕ) → c ≤ k → via link pass k a c ≡ true → via link pass k c b ≡ true → via link pass k a b ≡ true) → via link pass (suc k) a b ≡ true
      go (inl h) t = four (λ a b. t a b h) (three k a c x) (three k c b y)
      go (inr h) t =
          let e : c ≡ suc k = omega arith in
          past k a b (subst (λ n. pass n ≡ true) e q) (to_top k a (subst (λ n. via link pass (suc k) a n ≡ true) e x)) (from_top k b (subst (λ n. via link pass (suc k) n b ≡ true) e y))

  via_up : (k a b : ℕ) → link a b ≡ true → via link pass k a b ≡ true
  unfolding via
  via_up zero a b e = e
  via_up (suc k) a b e = up k a b (via_up k a b e)

  -- links of 1 to n lead to 1 to n only
  module _ (n : ℕ) (bound : (a b : ℕ) → 0 < a → a ≤ n → link a b ≡ true → (0 < b) × (b ≤ n)) where
    pub decides : (a b : ℕ) → 0 < a → a ≤ n → Way link pass a b → via link pass n a b ≡ true
    decides a b z h (one e) = via_up n a b e
    decides a b z h (on c e p x) =
        let k = bound a c z h e in
        via_trans n a c b k.0 k.1 p (via_up n a c e) (decides c b k.0 k.1 x)

  pub decided : (k a b : ℕ) → via link pass k a b ≡ true → Way link pass a b
  unfolding via
  decided zero a b e = one e
  decided (suc k) a b e = go (three k a b e) (λ a b. decided k a b)
    where
      go : (via link pass k a b ≡ true) ⊎ ((pass (suc k) ≡ true) × (via link pass k a (suc k) ≡ true) × (via link pass k (suc k) b ≡ true)) → ((a b : ℕ) → via link pass k a b ≡ true → Way link pass a b) → Way link pass a b
      go (inl h) ih = ih a b h
      go (inr h) ih = trans (suc k) h.0 (ih a (suc k) h.1) (ih (suc k) b h.2)
