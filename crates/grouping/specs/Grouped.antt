-- Numbers 1 to n grouped by type, as far as the order of those that are held allows.
use Rattle.std.specs.Prelude.{Bool, true, not, ◌&&◌, ◌||◌, cond, List, [], ◌∷◌, ◌++◌, ℕ, zero, suc, eqb, ltb}

-- 1 to n
unfoldable pub up_to : ℕ → List ℕ
up_to zero = []
up_to (suc n) = up_to n ++ suc n ∷ []

-- all but one
unfoldable pub without : ℕ → List ℕ → List ℕ
without c [] = []
without c (k ∷ ks) = cond (eqb k c) (without c ks) (k ∷ without c ks)

-- the type that came last goes on before any other begins; of the others the least number comes first
unfoldable pub rank : (last type : ℕ) → ℕ
rank last t = cond (eqb t last) 0 t

-- k may come next: nothing that is left and stands before it is held with it
unfoldable pub free : (held : ℕ → ℕ → Bool) → (left : List ℕ) → ℕ → Bool
free held [] k = true
free held (i ∷ left) k = not (ltb i k && held i k) && free held left k

-- whether k is to come before the best so far, which has a lower number; 0 is none
unfoldable pub better : (type : ℕ → ℕ) → (last best k : ℕ) → Bool
better type last best k = eqb best 0 || ltb (rank last (type k)) (rank last (type best))

module _ (held : ℕ → ℕ → Bool) (type : ℕ → ℕ) where
  -- of numbers in rising order, of which `left` are left: the first of the least rank that may come next
  unfoldable pub choice : (last : ℕ) (left : List ℕ) (best : ℕ) → List ℕ → ℕ
  choice last left best [] = best
  choice last left best (k ∷ ks) = choice last left (cond (free held left k && better type last best k) k best) ks

  abbrev pub next : (last : ℕ) (left : List ℕ) → ℕ
  next last left = choice last left 0 left

  -- so many of those that are left, one after the other
  unfoldable pub grouped_from : (count last : ℕ) (left : List ℕ) → List ℕ
  grouped_from zero last left = []
  grouped_from (suc n) last left = let c = next last left in c ∷ grouped_from n (type c) (without c left)

  unfoldable pub grouped : ℕ → List ℕ
  grouped n = grouped_from n 0 (up_to n)
