-- A merge of two runs, and a list of runs in order.
use Rattle.std.specs.Prelude.{Bool, true, false, cond, ◌&&◌, List, [], ◌∷◌, ◌≡◌, ℕ, ◌+◌, ◌*◌, ◌<◌, ◌≤◌, ltb, leb, length, get_or}
use Rattle.laws.specs.Bytes.{part}
use Rattle.name_order.specs.Sort.{Rising, has}

module _ (less : ℕ → ℕ → Bool) where
  -- whether the right run's first goes first: only where it is less, or the left run has none
  abbrev pub right_first : (left right : List ℕ) → Bool
  right_first xs [] = false
  right_first [] (y ∷ ys) = true
  right_first (x ∷ xs) (y ∷ ys) = less y x

  unfoldable pub merge : (left right : List ℕ) → List ℕ
  merge [] ys = ys
  merge (x ∷ xs) [] = x ∷ xs
  merge (x ∷ xs) (y ∷ ys) = cond (less y x) (y ∷ merge (x ∷ xs) ys) (x ∷ merge xs (y ∷ ys))

  -- the numbers that follow a, as many as the list has entries, in order
  pub record Run (a : ℕ) (xs : List ℕ) : Type 0 where
    pub all : (v : ℕ) → has v xs ≡ (ltb a v && leb v (a + length xs))
    pub rising : Rising less xs

  -- a list of runs, each of a width but the last
  abbrev pub Runs : (width : ℕ) → List ℕ → Type 0
  Runs w xs = (k : ℕ) → Run (k * w) (part xs (k * w) w)

-- entry k is number k + 1
abbrev pub Numbered : List ℕ → Type 0
Numbered xs = (k : ℕ) → k < length xs → get_or xs k 0 ≡ k + 1

-- ---- what the functions ask

-- two tables of one length
pub record Equal (from to : ℕ) : Type 0 where
  pub same : from ≡ to
  pub few : from ≤ 1024

-- and runs of a width in the first
pub record Round (less : ℕ → ℕ → Bool) (from : List ℕ) (to width : ℕ) : Type 0 where
  pub tables : Equal (length from) to
  pub some : 0 < width
  pub short : width ≤ 2048
  pub runs : Runs less width from
