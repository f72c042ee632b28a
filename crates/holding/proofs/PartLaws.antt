-- Blocks in two parts, each in the old order.
use mathlib.Core.Bool.{Bool, true}
use mathlib.Core.List.{List, [], ◌∷◌, ◌++◌}
use mathlib.Core.Logic.{inl, inr}
use mathlib.Core.Path.{◌≡◌, ap, sym, ◌∙◌}
use Prim.Native.Nat.{ℕ, suc, ◌<◌}
use native.Mathlib.Omega.{arith}
use Rattle.laws.proofs.BoolLaws.{cond_elim}
use Rattle.rearrangement.proofs.PieceLaws.{In, Rising, rising_drop}
use Rattle.rearrangement.specs.Cut.{Piece}
use Rattle.rearrangement.specs.Order.{OrderedBy, Passes}
use Rattle.sorting.proofs.ShuffleLaws.{All, those}

-- ---- those that a test picks

pub rising_those : (p : Piece → Bool) (lo : ℕ) (bs : List Piece) → Rising lo bs → Rising lo (those p bs)
unfolding those
rising_those p lo [] r = tt
rising_those p lo (b ∷ bs) r =
    let k = rising_those p (suc b.number) bs r.1 in
    cond_elim (Rising lo) (p b) (r.0, k) (rising_drop (suc b.number) lo (those p bs) (let l = r.0 in omega arith) k)

pub in_those : (p : Piece → Bool) (bs : List Piece) (b : Piece) → In b bs → p b ≡ true → In b (those p bs)
unfolding those
in_those p [] b i e = absurd i
in_those p (x ∷ bs) b (inl q) e = rw (ap p (sym q) ∙ e) (inl q)
in_those p (x ∷ bs) b (inr i) e = let k = in_those p bs b i e in cond_elim (In b) (p x) (inr k) k

-- ---- the order of both parts

module _ (R : Piece → Piece → Type 0) where
  -- of higher numbers nothing is passed
  rising_passes : (c : Piece) (lo : ℕ) (bs : List Piece) → c.number < lo → Rising lo bs → Passes R c bs
  rising_passes c lo [] l r = tt
  rising_passes c lo (b ∷ bs) l r = (λ h. absurd (omega (arith, r.0)), rising_passes c (suc b.number) bs (omega (arith, r.0)) r.1)

  rising_ordered : (lo : ℕ) (bs : List Piece) → Rising lo bs → OrderedBy R bs
  rising_ordered lo [] r = tt
  rising_ordered lo (b ∷ bs) r = (rising_passes b (suc b.number) bs (omega arith) r.1, rising_ordered (suc b.number) bs r.1)

  passes_append : (c : Piece) (xs ys : List Piece) → Passes R c xs → Passes R c ys → Passes R c (xs ++ ys)
  passes_append c [] ys h k = k
  passes_append c (x ∷ xs) ys h k = (h.0, passes_append c xs ys h.1 k)

  module _ (P Q : Piece → Type 0) (f : (c b : Piece) → P c → Q b → b.number < c.number → R b c) where
    all_passes : (c : Piece) (ys : List Piece) → P c → All Q ys → Passes R c ys
    all_passes c [] p q = tt
    all_passes c (b ∷ ys) p q = (f c b p q.0, all_passes c ys p q.1)

    pub parts_ordered : (lo hi : ℕ) (xs ys : List Piece) → Rising lo xs → Rising hi ys → All P xs → All Q ys → OrderedBy R (xs ++ ys)
    parts_ordered lo hi [] ys r s p q = rising_ordered hi ys s
    parts_ordered lo hi (c ∷ xs) ys r s p q = (passes_append c xs ys (rising_passes c (suc c.number) xs (omega arith) r.1) (all_passes c ys p.0 q), parts_ordered (suc c.number) hi xs ys r.1 s p.1 q)
