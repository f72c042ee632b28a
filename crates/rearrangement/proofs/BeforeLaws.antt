-- How many statements stand before a block.
use mathlib.Core.Bool.{true, false}
use mathlib.Core.List.{List, [], ◌∷◌, ◌++◌}
use mathlib.Core.Logic.{inl, inr}
use mathlib.Core.Path.{◌≡◌, refl, ap, sym}
use Prim.Native.Nat.{ℕ, suc, ◌+◌, ◌≤◌}
use native.Mathlib.Nat.{zero-add}
use native.Mathlib.Omega.{arith}
use borrow.Author.Tests.{eq-eqb, ne_eqb}
use lib.Dec.{eqb}
use lib.ListN.{length, length-append}
use Rattle.rearrangement.proofs.PieceLaws.{In, Rising, rising_low}
use Rattle.rearrangement.specs.Cut.{Piece, saids}
use Rattle.rearrangement.specs.Order.{statements_before}

-- no block of xs has that number
pub before_past : (xs ys : List Piece) (n : ℕ) → ((b : Piece) → In b xs → b.number ≡ n → ⊥) → statements_before (xs ++ ys) n ≡ length (saids xs) + statements_before ys n
unfolding statements_before saids
before_past [] ys n f = sym (zero-add (statements_before ys n))
before_past (x ∷ xs) ys n f = rw (ne_eqb x.number n (f x (inl refl))) (let k = before_past xs ys n (λ b i. f b (inr i)) in omega (arith, k, length-append (saids xs) x.said))

-- a block of xs: what follows xs does not count, and its statements are among those of xs
pub before_in : (lo : ℕ) (xs ys : List Piece) (b : Piece) → Rising lo xs → In b xs
    → (statements_before (xs ++ ys) b.number ≡ statements_before xs b.number) × (statements_before xs b.number + length b.said ≤ length (saids xs))
unfolding statements_before saids
before_in lo [] ys b r i = absurd i
before_in lo (x ∷ xs) ys b r (inl e) =
    let q : eqb x.number b.number ≡ true = eq-eqb x.number b.number (sym (ap (λ (y : Piece). y.number) e)) in
    let l : length b.said ≡ length x.said = ap (λ (y : Piece). length y.said) e in
    (rw q, rw q (omega (arith, length-append (saids xs) x.said)))
before_in lo (x ∷ xs) ys b r (inr i) =
    let n = rising_low (suc x.number) xs b r.1 i in
    let q : eqb x.number b.number ≡ false = ne_eqb x.number b.number (λ e. absurd (omega arith)) in
    let k = before_in (suc x.number) xs ys b r.1 i in
    (rw q (ap (λ n. length x.said + n) k.0), rw q (omega (arith, k.1, length-append (saids xs) x.said)))

pub before_same : (c : Piece) (bs : List Piece) (n : ℕ) → c.number ≡ n → statements_before (c ∷ bs) n ≡ 0
unfolding statements_before
before_same c bs n e = rw (eq-eqb c.number n e)

pub before_other : (c : Piece) (bs : List Piece) (n : ℕ) → (c.number ≡ n → ⊥) → statements_before (c ∷ bs) n ≡ length c.said + statements_before bs n
unfolding statements_before
before_other c bs n e = rw (ne_eqb c.number n e)
