-- The lowest primitive on a loop, and the materials that a primitive may show.
use Rattle.std.specs.Prelude.{Bool, true, false, cond, ◌&&◌, ◌||◌, List, [], ◌∷◌, ◌++◌, ◌≡◌, ℕ, zero, suc, ◌<◌, ◌≤◌, eqb}
use Rattle.scene.specs.Types.{is_material}
use Rattle.graph.specs.Graph.{Graph, goes_on, link}
use Rattle.graph.specs.Paths.{via}

-- n leads to m, over links among 1 to count; through materials too, or stopping at each
abbrev pub leads : Graph → (through : Bool) (count n m : ℕ) → Bool
leads g through count = via (link g) (goes_on g through) count

-- the first number, else the second
abbrev pub or_else : ℕ → ℕ → ℕ
or_else zero n = n
or_else (suc m) n = suc m

-- the lowest of 1 to k that passes, 0 for none
unfoldable pub lowest : (ℕ → Bool) → ℕ → ℕ
lowest test zero = 0
lowest test (suc k) = or_else (lowest test k) (cond (test (suc k)) (suc k) 0)

-- those of 1 to k that pass, smallest first
unfoldable pub those : (ℕ → Bool) → ℕ → List ℕ
those test zero = []
those test (suc k) = those test k ++ cond (test (suc k)) (suc k ∷ []) []

-- "some primitive leads back to itself over these links, through materials too"
abbrev pub looped : Graph → (count n : ℕ) → Bool
looped g count n = leads g true count n n

-- "its lowest-numbered primitive, the lowest over all loops"; 0 for none
unfoldable pub lowest_loop : Graph → (count : ℕ) → ℕ
lowest_loop g count = lowest (looped g count) count

-- "every material it may show [..] stopping at each material reached, each once, smallest number first"
unfoldable pub shows : Graph → (count n m : ℕ) → Bool
shows g count n m = leads g false count n m && is_material (g.nodes m).type

unfoldable pub shown_in : Graph → (count n : ℕ) → List ℕ
shown_in g count n = those (shows g count n) count

-- ---- what such a list is

abbrev pub stands_in : ℕ → List ℕ → Bool
stands_in m [] = false
stands_in m (n ∷ ns) = eqb m n || stands_in m ns

-- each number is above the one before it, and the first above another
abbrev pub Ascending : (above : ℕ) → List ℕ → Type 0
Ascending a [] = Unit
Ascending a (n ∷ ns) = (a < n) × Ascending n ns

-- "each once, smallest number first": and in it stand exactly the materials that n may show
pub record ListsEachOnce (g : Graph) (count n : ℕ) : Type 0 where
  pub ascending : Ascending 0 (shown_in g count n)
  pub exactly : (m : ℕ) → 0 < m → m ≤ count → stands_in m (shown_in g count n) ≡ shows g count n m
