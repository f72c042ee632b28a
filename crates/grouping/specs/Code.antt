-- The code's table has a place for each number from 0 on. At place k stands how many numbers from 1 on are known to hold k back no
-- more; where k has its place in the order, k itself. So 0, which is no record's number, always has its place.
use Rattle.std.specs.Prelude.{Bool, true, false, not, cond, ◌||◌, List, [], ◌∷◌, ◌++◌, ◌≡◌, ℕ, zero, suc, ◌+◌, ◌-◌, ◌<◌, ◌≤◌, eqb, length, get_or, take}
use Rattle.scene.specs.Record.{record_in}
use Rattle.grouping.specs.Grouped.{choice, grouped, grouped_from, next}

-- the type of record n
abbrev pub type_in : (records : List ℕ) → ℕ → ℕ
type_in T n = (record_in T n).type

-- whether k has its place in the order
unfoldable pub placed : (seen : List ℕ) → ℕ → Bool
placed S k = eqb (get_or S k 0) k

-- of the m numbers that follow k, those with no place
unfoldable pub left_from : (placed : ℕ → Bool) → (k m : ℕ) → List ℕ
left_from p k zero = []
left_from p k (suc m) = cond (p (k + 1)) (left_from p (k + 1) m) ((k + 1) ∷ left_from p (k + 1) m)

-- all that are left
abbrev pub left : (seen : List ℕ) → List ℕ
left S = left_from (placed S) 0 (length S - 1)

module _ (held : ℕ → ℕ → Bool) where
  -- whether i does not hold k back
  unfoldable pub passed : (placed : ℕ → Bool) → (i k : ℕ) → Bool
  passed p i k = p i || not (held i k)

  -- the table is right
  pub record Known (S : List ℕ) : Type 0 where
    pub low : (k : ℕ) → get_or S k 0 ≤ k
    pub clear : (i k : ℕ) → 0 < i → i ≤ get_or S k 0 → get_or S k 0 < k → passed (placed S) i k ≡ true

  -- a number in the table that has no place
  pub record Waiting (S : List ℕ) (k : ℕ) : Type 0 where
    pub known : Known S
    pub within : k < length S
    pub waits : get_or S k 0 < k

  -- r numbers from 1 on do not hold k back
  pub record Looking (S : List ℕ) (k r : ℕ) : Type 0 where
    pub within : r < k
    pub clear : (i : ℕ) → 0 < i → i ≤ r → passed (placed S) i k ≡ true

  -- and the one after them does, where it stands before k
  pub record Looked (S : List ℕ) (k r : ℕ) : Type 0 where
    pub looking : Looking S k r
    pub stops : r + 1 < k → passed (placed S) (r + 1) k ≡ false

  -- one table after another: it is right, and says the same of what has its place
  pub record Kept (S S' : List ℕ) : Type 0 where
    pub size : length S' ≡ length S
    pub same : (k : ℕ) → placed S' k ≡ placed S k
    pub known : Known S'

  module _ (type : ℕ → ℕ) where
    -- k numbers are looked at: from the best of them on, the choice is the one among all that are left
    pub record Choosing (last : ℕ) (S S' : List ℕ) (best k : ℕ) : Type 0 where
      pub kept : Kept S S'
      pub within : k ≤ length S
      pub goes : choice held type last (left S) best (left_from (placed S) k (length S - 1 - k)) ≡ next held type last (left S)

    -- c is the next number
    pub record Chose (last : ℕ) (S S' : List ℕ) (c : ℕ) : Type 0 where
      pub kept : Kept S S'
      pub answer : c ≡ next held type last (left S)

    -- i numbers stand in the order, and those that are left follow them
    pub record Filling (S order : List ℕ) (i last : ℕ) : Type 0 where
      pub known : Known S
      pub size : length S ≡ length order + 1
      pub within : i ≤ length order
      pub many : length (left S) ≡ length order - i
      pub done : take i order ++ grouped_from held type (length order - i) last (left S) ≡ grouped held type (length order)
