-- What has to stay behind entry n where n is taken behind others: n itself, and all that it holds.
use mathlib.Core.Bool.{Bool, true, false, not, ◌&&◌, ◌||◌, false≢true}
use mathlib.Core.Logic.{◌⊎◌, inl, inr}
use mathlib.Core.Path.{◌≡◌, refl, subst}
use Prim.Native.Nat.{ℕ, ◌<◌}
use native.Mathlib.Omega.{arith}
use borrow.Author.Tests.{eq-eqb, eqb-false, eqb-true, lt-ltb, ltb-true, ne_eqb}
use lib.Dec.{eqb, ltb}
use Rattle.holding.proofs.ChainLaws.{chain_last, chain_rises}
use Rattle.holding.proofs.ShortestLaws.{decides}
use Rattle.holding.specs.Chain.{Holds, link}
use Rattle.holding.specs.Shortest.{first_link}

module _ (tied : ℕ → ℕ → Bool) (n : ℕ) where
  unfoldable pub late : ℕ → Bool
  late k = eqb k n || (ltb n k && not (eqb (first_link tied n k) 0))

  abbrev pub Reached : ℕ → Type 0
  Reached k = (k ≡ n) ⊎ Holds tied n k

  pub late_reached : (k : ℕ) → late k ≡ true → Reached k
  unfolding late
  late_reached k h = go (eqb k n) (ltb n k) (eqb (first_link tied n k) 0) refl refl refl h
    where
      go : (a b c : Bool) → eqb k n ≡ a → ltb n k ≡ b → eqb (first_link tied n k) 0 ≡ c → (a || (b && not c)) ≡ true → Reached k
      go true b c p q r h = inl (eqb-true k n p)
      go false true true p q r h = absurd (false≢true h)
      go false true false p q r h =
          let e = eqb-false (first_link tied n k) 0 r in
          let s = (decides tied n k (ltb-true n k q)).some (omega arith) in
          inr (s.links, s.chain)
      go false false c p q r h = absurd (false≢true h)

  pub reached_late : (k : ℕ) → Reached k → late k ≡ true
  unfolding late
  reached_late k (inl e) = rw (eq-eqb k n e)
  reached_late k (inr (j, c)) =
      let l = chain_rises tied c in
      rw (ne_eqb k n (λ e. omega (arith, e)), lt-ltb n k l, ne_eqb (first_link tied n k) 0 (λ e. (decides tied n k l).none e (j, c)))

  pub late_on : (j k : ℕ) → j < k → late j ≡ true → tied j k ≡ true → late k ≡ true
  late_on j k l h t = go (late_reached j h)
    where
      go : Reached j → late k ≡ true
      go (inl e) = reached_late k (inr (1, link (subst (λ (i : ℕ). i < k) e l) (subst (λ (i : ℕ). tied i k ≡ true) e t)))
      go (inr (i, c)) = reached_late k (inr (_, chain_last tied k c l t))
