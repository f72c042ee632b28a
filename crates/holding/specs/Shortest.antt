-- A shortest chain, worked out from its end.
use Rattle.std.specs.Prelude.{Bool, not, ◌&&◌, ◌||◌, cond, List, [], ◌∷◌, ℕ, zero, suc, ◌-◌, eqb, ltb, get_or}

module _ (tied : ℕ → ℕ → Bool) where
  -- entries j, j + 1, .. with how many entries a shortest chain from each to the last has, itself counted, and 0 for none: the least that
  -- number k is bound to, 0 for none
  unfoldable pub nearest : (k j : ℕ) → List ℕ → (best : ℕ) → ℕ
  nearest k j [] best = best
  nearest k j (d ∷ ds) best = nearest k (suc j) ds (cond (not (eqb d 0) && (eqb best 0 || ltb d best) && tied k j) d best)

  abbrev pub one_more : ℕ → ℕ
  one_more zero = 0
  one_more (suc d) = suc (suc d)

  -- that number for m - count, .., m - 1, m
  unfoldable pub lengths : (m count : ℕ) → List ℕ
  lengths m zero = 1 ∷ []
  lengths m (suc c) = let behind = lengths m c in one_more (nearest (m - suc c) (m - c) behind 0) ∷ behind

  -- how many entries a shortest chain from n to m has, 0 for none
  unfoldable pub chain_length : (n m : ℕ) → ℕ
  chain_length n m = get_or (lengths m (m - n)) 0 0

  -- the first of the entries j, j + 1, .. that n is bound to and from which a chain has one entry less
  unfoldable pub first_on : (n long j : ℕ) → List ℕ → ℕ
  first_on n long j [] = 0
  first_on n long j (d ∷ ds) = cond (eqb (suc d) long && tied n j) j (first_on n long (suc j) ds)

  -- where a shortest chain from n to m goes first: of several the lowest number; 0 where there is none
  unfoldable pub first_link : (n m : ℕ) → ℕ
  first_link n m = first_on n (chain_length n m) (suc n) (lengths m (m - suc n))
