-- The new order: one block after the other is taken to the front of those that are left. What holds of every such step, and of one after
-- the other, holds of all.
use mathlib.Core.List.{List, [], ◌∷◌, ◌++◌, append_assoc}
use mathlib.Core.Logic.{◌⊎◌, inl, inr}
use mathlib.Core.Path.{◌≡◌, refl, ap, sym, ◌∙◌, subst, subst₂}
use Prim.Native.Nat.{ℕ, suc, ◌+◌, ◌-◌, ◌≤◌, ◌<◌}
use native.Mathlib.Omega.{arith}
use lib.ListN.{length, length-append}
use Rattle.laws.specs.Shuffle.{Shuffle}
use Rattle.rearrangement.proofs.BeforeLaws.{before_in, before_other, before_past, before_same}
use Rattle.rearrangement.proofs.ClearLaws.{Free, saids_append}
use Rattle.rearrangement.proofs.PieceLaws.{In, Rising, free_of, in_cases, in_left, in_right, rising_first, rising_last, rising_less, rising_low, rising_out, shuffle_in}
use Rattle.rearrangement.specs.Cut.{Piece, saids}
use Rattle.rearrangement.specs.Order.{OrderedBy, statements_before}
use Rattle.scene.proofs.SwapLaws.{shift_first, shift_high, shift_low, shift_second}
use Rattle.scene.specs.Block.{shift}
use Rattle.scene.specs.Statement.{Statement}

-- R: how a block is related to those that it passes. K: what holds between the statements before and after, by the numbers forth and back
module _ (R : Piece → Piece → Type 0) (K : (f g : ℕ → ℕ) (D D' : List Statement) → Type 0) where
  pub record Chain : Type 0 where
    pub same : (D : List Statement) → K (λ n. n) (λ n. n) D D
    pub then : (f g h k : ℕ → ℕ) (D D' D'' : List Statement) → K f g D D' → K h k D' D'' → K (λ n. h (f n)) (λ n. g (k n)) D D''
    pub swap : (P Q : List Statement) (c : Piece) (xs : List Piece) → Free R c xs
        → K (shift (length P) (length (saids xs)) (length c.said)) (shift (length P) (length c.said) (length (saids xs))) (Q ++ (c.said ++ (saids xs ++ P))) (Q ++ (saids xs ++ (c.said ++ P)))

  -- blocks in a new order behind the statements P
  pub record Turned (P : List Statement) (old new : List Piece) : Type 0 where
    pub number : ℕ → ℕ
    pub back : ℕ → ℕ
    pub way : K number back (saids old ++ P) (saids new ++ P)
    pub low : (n : ℕ) → n ≤ length P → number n ≡ n
    pub each : (b : Piece) → In b old → (k : ℕ) → 0 < k → k ≤ length b.said → number (length P + statements_before old b.number + k) ≡ length P + statements_before new b.number + k

  module _ (chain : Chain) where
    module _ (P : List Statement) (lo : ℕ) (c : Piece) (xs ys new : List Piece) (rise : Rising lo (xs ++ c ∷ ys)) (free : Free R c xs) (d : Turned (c.said ++ P) (xs ++ ys) new) where
      -- how many statements stand before, in the blocks that c passes, and in c
      abbrev p : ℕ
      p = length P

      abbrev i : ℕ
      i = length (saids xs)

      abbrev j : ℕ
      j = length c.said

      abbrev f : ℕ → ℕ
      f n = d.number (shift p i j n)

      way : K f (λ n. shift p j i (d.back n)) (saids (xs ++ c ∷ ys) ++ P) (saids (c ∷ new) ++ P)
      unfolding saids
      way =
          let w = chain.swap P (saids ys) c xs free in
          let a : saids ys ++ (saids xs ++ (c.said ++ P)) ≡ saids (xs ++ ys) ++ (c.said ++ P) = sym (ap {B = List Statement} (λ (z : List Statement). z ++ (c.said ++ P)) (saids_append xs ys) ∙ append_assoc (saids ys) (saids xs) (c.said ++ P)) in
          let b : saids ys ++ (c.said ++ (saids xs ++ P)) ≡ saids (xs ++ c ∷ ys) ++ P = sym (ap {B = List Statement} (λ (z : List Statement). z ++ P) (saids_append xs (c ∷ ys)) ∙ simp append_assoc) in
          subst₂ (K f (λ n. shift p j i (d.back n))) b (sym (append_assoc (saids new) c.said P))
          (chain.then (shift p i j) (shift p j i) d.number d.back _ _ _ w (subst (λ (z : List Statement). K d.number d.back z (saids new ++ (c.said ++ P))) (sym a) d.way))

      low : (n : ℕ) → n ≤ p → f n ≡ n
      low n h = ap d.number (shift_low p i j n h) ∙ d.low n (omega (arith, length-append c.said P))

      -- the statements of each block: of c itself, of one that it passes, and of one behind it
      each : (b : Piece) → In b (xs ++ c ∷ ys) → (k : ℕ) → 0 < k → k ≤ length b.said → f (p + statements_before (xs ++ c ∷ ys) b.number + k) ≡ p + statements_before (c ∷ new) b.number + k
      each b h k z l = go (in_cases b c xs ys h)
        where
          la : length (c.said ++ P) ≡ length c.said + length P
          la = length-append c.said P

          go : (b ≡ c) ⊎ (In b xs ⊎ In b ys) → f (p + statements_before (xs ++ c ∷ ys) b.number + k) ≡ p + statements_before (c ∷ new) b.number + k
          go (inl e) =
              let lc : length b.said ≡ length c.said = ap (λ (y : Piece). length y.said) e in
              let nc : c.number ≡ b.number = sym (ap (λ (y : Piece). y.number) e) in
              let u : statements_before (xs ++ c ∷ ys) b.number ≡ length (saids xs) + 0 = before_past xs (c ∷ ys) b.number (λ y i q. omega (arith, q, nc, rising_less lo xs c ys y rise i)) ∙ ap (λ n. length (saids xs) + n) (before_same c ys b.number nc) in
              let m : p + statements_before (xs ++ c ∷ ys) b.number + k ≡ p + i + k = omega arith in
              ap d.number (ap (shift p i j) m ∙ shift_second p i j (p + i + k) (omega arith) (omega arith)) ∙ d.low (p + i + k - i) (omega (arith, la)) ∙ omega (arith, before_same c new b.number nc)
          go (inr (inl h)) =
              let u = before_in lo xs (c ∷ ys) b (rising_first lo xs (c ∷ ys) rise) h in
              let v = before_in lo xs ys b (rising_first lo xs (c ∷ ys) rise) h in
              let nb = rising_less lo xs c ys b rise h in
              ap d.number (shift_first p i j (p + statements_before (xs ++ c ∷ ys) b.number + k) (omega arith) (omega (arith, u.0, u.1)) ∙ omega (arith, u.0, v.0, la)) ∙ d.each b (in_left b xs ys h) k z l
              ∙ omega (arith, la, before_other c new b.number (λ q. omega (arith, q, nb)))
          go (inr (inr h)) =
              let nb = rising_low (suc c.number) ys b (rising_last lo xs c ys rise) h in
              let past : (y : Piece) → In y xs → y.number ≡ b.number → ⊥ = λ y i q. omega (arith, q, nb, rising_less lo xs c ys y rise i) in
              let u : statements_before (xs ++ c ∷ ys) b.number ≡ length (saids xs) + (length c.said + statements_before ys b.number) = before_past xs (c ∷ ys) b.number past ∙ ap (λ n. length (saids xs) + n) (before_other c ys b.number (λ q. omega (arith, q, nb))) in
              let v = before_past xs ys b.number past in
              ap d.number (shift_high p i j (p + statements_before (xs ++ c ∷ ys) b.number + k) (omega arith) ∙ omega (arith, u, v, la)) ∙ d.each b (in_right b xs ys h) k z l
              ∙ omega (arith, la, before_other c new b.number (λ q. omega (arith, q, nb)))

      to_front : Turned P (xs ++ c ∷ ys) (c ∷ new)
      to_front = record { number = f; back = λ n. shift p j i (d.back n); way = way; low = low; each = each }

    pub turned : (new old : List Piece) (P : List Statement) (lo : ℕ) → Shuffle old new → Rising lo old → OrderedBy R new → Turned P old new
    turned [] old P lo e rise o = subst (λ (z : List Piece). Turned P z []) (sym e) (record { number = λ n. n; back = λ n. n; way = chain.same (saids [] ++ P); low = λ n h. refl; each = λ b h. absurd h })
    turned (c ∷ new) old P lo (xs, ys, e, s) rise o =
        let rise' = subst (Rising lo) e rise in
        let free = free_of R c new xs o.0 (λ b h. (shuffle_in new (xs ++ ys) b s (in_left b xs ys h), rising_less lo xs c ys b rise' h)) in
        subst (λ (z : List Piece). Turned P z (c ∷ new)) (sym e) (to_front P lo c xs ys new rise' free (turned new (xs ++ ys) (c.said ++ P) lo s (rising_out lo xs c ys rise') o.1))
