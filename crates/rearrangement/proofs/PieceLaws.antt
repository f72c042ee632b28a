-- Lists of blocks: which stand in one, and those whose numbers rise.
use mathlib.Core.List.{List, [], ◌∷◌, ◌++◌}
use mathlib.Core.Logic.{◌⊎◌, inl, inr}
use mathlib.Core.Path.{◌≡◌, refl, sym, subst}
use Prim.Native.Nat.{ℕ, suc, ◌≤◌, ◌<◌}
use native.Mathlib.Omega.{arith}
use Rattle.laws.specs.Shuffle.{Shuffle}
use Rattle.rearrangement.proofs.ClearLaws.{Free}
use Rattle.rearrangement.specs.Cut.{Piece}
use Rattle.rearrangement.specs.Order.{Passes}

-- ---- blocks of a list

abbrev pub In : Piece → List Piece → Type 0
In b [] = ⊥
In b (x ∷ xs) = (b ≡ x) ⊎ In b xs

pub in_left : (b : Piece) (xs ys : List Piece) → In b xs → In b (xs ++ ys)
in_left b [] ys h = absurd h
in_left b (x ∷ xs) ys (inl e) = inl e
in_left b (x ∷ xs) ys (inr h) = inr (in_left b xs ys h)

pub in_right : (b : Piece) (xs ys : List Piece) → In b ys → In b (xs ++ ys)
in_right b [] ys h = h
in_right b (x ∷ xs) ys h = inr (in_right b xs ys h)

pub in_cases : (b c : Piece) (xs ys : List Piece) → In b (xs ++ c ∷ ys) → (b ≡ c) ⊎ (In b xs ⊎ In b ys)
in_cases b c [] ys (inl e) = inl e
in_cases b c [] ys (inr h) = inr (inr h)
in_cases b c (x ∷ xs) ys (inl e) = inr (inl (inl e))
in_cases b c (x ∷ xs) ys (inr h) = go (in_cases b c xs ys h)
  where
    go : (b ≡ c) ⊎ (In b xs ⊎ In b ys) → (b ≡ c) ⊎ (In b (x ∷ xs) ⊎ In b ys)
    go (inl e) = inl e
    go (inr (inl h)) = inr (inl (inr h))
    go (inr (inr h)) = inr (inr h)

pub shuffle_in : (new old : List Piece) (b : Piece) → Shuffle old new → In b old → In b new
shuffle_in [] old b e h = subst (In b) e h
shuffle_in (c ∷ new) old b (xs, ys, e, k) h = go (in_cases b c xs ys (subst (In b) e h)) (shuffle_in new (xs ++ ys) b k)
  where
    go : (b ≡ c) ⊎ (In b xs ⊎ In b ys) → (In b (xs ++ ys) → In b new) → In b (c ∷ new)
    go (inl q) ih = inl q
    go (inr (inl q)) ih = inr (ih (in_left b xs ys q))
    go (inr (inr q)) ih = inr (ih (in_right b xs ys q))

module _ (R : Piece → Piece → Type 0) where
  pub passes_in : (c : Piece) (bs : List Piece) (b : Piece) → Passes R c bs → In b bs → b.number < c.number → R b c
  passes_in c [] b h i l = absurd i
  passes_in c (x ∷ bs) b h (inl e) l = subst (λ (y : Piece). R y c) (sym e) (h.0 (subst (λ (y : Piece). y.number < c.number) e l))
  passes_in c (x ∷ bs) b h (inr i) l = passes_in c bs b h.1 i l

  -- what stood before c and stands behind it now is related to it
  pub free_of : (c : Piece) (bs xs : List Piece) → Passes R c bs → ((b : Piece) → In b xs → In b bs × (b.number < c.number)) → Free R c xs
  free_of c bs [] h f = tt
  free_of c bs (x ∷ xs) h f = let k = f x (inl refl) in (passes_in c bs x h k.0 k.1, free_of c bs xs h (λ b i. f b (inr i)))

-- ---- numbers that rise

abbrev pub Rising : ℕ → List Piece → Type 0
Rising lo [] = Unit {0}
Rising lo (b ∷ bs) = (lo ≤ b.number) × Rising (suc b.number) bs

pub rising_low : (lo : ℕ) (bs : List Piece) (b : Piece) → Rising lo bs → In b bs → lo ≤ b.number
rising_low lo [] b h i = absurd i
rising_low lo (x ∷ bs) b h (inl e) = subst (λ (y : Piece). lo ≤ y.number) (sym e) h.0
rising_low lo (x ∷ bs) b h (inr i) = let k = rising_low (suc x.number) bs b h.1 i in let l = h.0 in omega arith

pub rising_drop : (lo lo' : ℕ) (bs : List Piece) → lo' ≤ lo → Rising lo bs → Rising lo' bs
rising_drop lo lo' [] l h = tt
rising_drop lo lo' (b ∷ bs) l h = (let k = h.0 in omega arith, h.1)

pub rising_out : (lo : ℕ) (xs : List Piece) (c : Piece) (ys : List Piece) → Rising lo (xs ++ c ∷ ys) → Rising lo (xs ++ ys)
rising_out lo [] c ys h = rising_drop (suc c.number) lo ys (let k = h.0 in omega arith) h.1
rising_out lo (x ∷ xs) c ys h = (h.0, rising_out (suc x.number) xs c ys h.1)

pub rising_first : (lo : ℕ) (xs ys : List Piece) → Rising lo (xs ++ ys) → Rising lo xs
rising_first lo [] ys h = tt
rising_first lo (x ∷ xs) ys h = (h.0, rising_first (suc x.number) xs ys h.1)

pub rising_last : (lo : ℕ) (xs : List Piece) (c : Piece) (ys : List Piece) → Rising lo (xs ++ c ∷ ys) → Rising (suc c.number) ys
rising_last lo [] c ys h = h.1
rising_last lo (x ∷ xs) c ys h = rising_last (suc x.number) xs c ys h.1

pub rising_less : (lo : ℕ) (xs : List Piece) (c : Piece) (ys : List Piece) (b : Piece) → Rising lo (xs ++ c ∷ ys) → In b xs → b.number < c.number
rising_less lo [] c ys b h i = absurd i
rising_less lo (x ∷ xs) c ys b h (inl e) = subst (λ (y : Piece). y.number < c.number) (sym e) (rising_low (suc x.number) (xs ++ c ∷ ys) c h.1 (in_right c xs (c ∷ ys) (inl refl)))
rising_less lo (x ∷ xs) c ys b h (inr i) = rising_less (suc x.number) xs c ys b h.1 i
