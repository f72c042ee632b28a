-- Where a block stands in a list.
use mathlib.Core.Bool.{Bool, true, false, cond}
use mathlib.Core.List.{List, [], ◌∷◌, ◌++◌}
use mathlib.Core.Logic.{inl, inr}
use mathlib.Core.Path.{◌≡◌, refl, ap, sym}
use Prim.Native.Nat.{ℕ, suc, ◌≤◌, ◌<◌}
use native.Mathlib.Omega.{arith}
use borrow.Author.Tests.{eq-eqb, eqb-false, eqb-true, ne_eqb}
use lib.Dec.{eqb}
use lib.ListN.{length}
use Rattle.holding.specs.Mattered.{position}
use Rattle.rearrangement.proofs.PieceLaws.{In, passes_in}
use Rattle.rearrangement.specs.Cut.{Piece}
use Rattle.rearrangement.specs.Order.{OrderedBy}
use Rattle.sorting.proofs.ShuffleLaws.{All}

-- a block stands before those that it may not change its order with
pub position_less : (R : Piece → Piece → Type 0) (new : List Piece) (b : Piece) (n : ℕ) → OrderedBy R new → In b new → b.number < n → All (λ (x : Piece). x.number ≡ n → R b x → ⊥) new → position new b.number < position new n
unfolding position
position_less R [] b n o i l h = absurd i
position_less R (x ∷ bs) b n o i l h = go (eqb x.number b.number) (eqb x.number n) refl refl i (λ j. position_less R bs b n o.1 j l h.1)
  where
    go : (p q : Bool) → eqb x.number b.number ≡ p → eqb x.number n ≡ q → In b (x ∷ bs) → (In b bs → position bs b.number < position bs n) → cond p 0 (suc (position bs b.number)) < cond q 0 (suc (position bs n))
    go true true p q i f = absurd (omega (arith, eqb-true x.number b.number p, eqb-true x.number n q))
    go true false p q i f = omega arith
    go false q p e (inl y) f = absurd (eqb-false x.number b.number p (sym (ap (λ (y : Piece). y.number) y)))
    go false true p q (inr j) f = let e = eqb-true x.number n q in absurd (h.0 e (passes_in R x bs b o.0 j (omega arith)))
    go false false p q (inr j) f = omega (arith, f j)

-- ---- two parts

-- a block of the first part
pub position_first : (xs ys : List Piece) (b : Piece) → In b xs → position (xs ++ ys) b.number < length xs
unfolding position
position_first [] ys b i = absurd i
position_first (x ∷ xs) ys b (inl e) = rw (eq-eqb x.number b.number (sym (ap (λ (y : Piece). y.number) e))) (omega arith)
position_first (x ∷ xs) ys b (inr i) = go (eqb x.number b.number) (position_first xs ys b i)
  where
    go : (p : Bool) → position (xs ++ ys) b.number < length xs → cond p 0 (suc (position (xs ++ ys) b.number)) < suc (length xs)
    go true l = omega arith
    go false l = omega arith

-- no block of the first part has that number
pub position_second : (xs ys : List Piece) (n : ℕ) → All (λ (x : Piece). x.number ≡ n → ⊥) xs → length xs ≤ position (xs ++ ys) n
unfolding position
position_second [] ys n h = omega arith
position_second (x ∷ xs) ys n h = rw (ne_eqb x.number n h.0) (let k = position_second xs ys n h.1 in omega arith)
