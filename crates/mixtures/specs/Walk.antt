-- The walk that marks what it reaches: what each step is asked, and what it does.
use Rattle.std.specs.Prelude.{Bool, true, List, [], ◌∷◌, ◌⊎◌, ◌≡◌, ℕ, zero, suc, ◌+◌, ◌<◌, ◌≤◌, length, get_or}
use Rattle.graph.proofs.GraphLaws.{Among}
use Rattle.graph.specs.Graph.{Graph, goes_on, link}
use Rattle.graph.specs.Paths.{Way}

-- primitive k is marked
abbrev pub Marked : List ℕ → ℕ → Type 0
Marked marks k = 0 < get_or marks k 0

abbrev pub blank : ℕ → ℕ
blank zero = 1
blank (suc m) = 0

-- how many are not marked
unfoldable pub unmarked : List ℕ → ℕ
unmarked [] = 0
unmarked (m ∷ marks) = blank m + unmarked marks

-- k is m, or m is passed and leads to k
abbrev pub Onward : Graph → Bool → ℕ → ℕ → Type 0
Onward g through m k = (k ≡ m) ⊎ ((goes_on g through m ≡ true) × Way (link g) (goes_on g through) m k)

-- each link of a numbered primitive leads to a number; that to its modifier to a lower one
pub record Within (g : Graph) (size : ℕ) : Type 0 where
  pub modifier : (n : ℕ) → 0 < n → n < size → (g.nodes n).modifier < n
  pub foreground : (n : ℕ) → 0 < n → n < size → (g.sides n).foreground < size
  pub background : (n : ℕ) → 0 < n → n < size → (g.sides n).background < size

-- a step at primitive n: unmarked primitives bound the work
pub record Ready (g : Graph) (marks : List ℕ) (n depth : ℕ) : Type 0 where
  pub within : Within g (length marks)
  pub here : n < length marks
  pub deep : unmarked marks ≤ depth

-- a walk over the links to the primitives ms: nothing is unmarked, all of ms are marked, what is newly marked is reached from
-- one of ms, and from what is newly marked and passed each link leads to a mark
pub record Walked (g : Graph) (through : Bool) (before after : List ℕ) (ms : List ℕ) : Type 0 where
  pub same : length after ≡ length before
  pub kept : (k : ℕ) → Marked before k → Marked after k
  pub begun : (m : ℕ) → Among m ms → 0 < m → Marked after m
  pub reached : (k : ℕ) → Marked after k → Marked before k ⊎ ((m : ℕ) × (0 < m) × Among m ms × Onward g through m k)
  pub closed : (a b : ℕ) → Marked after a → Marked before a ⊎ (goes_on g through a ≡ true → link g a b ≡ true → Marked after b)

-- after the whole walk from n: marked is what n leads to
pub record Reaches (g : Graph) (through : Bool) (n : ℕ) (marks : List ℕ) : Type 0 where
  pub sound : (k : ℕ) → Marked marks k → Way (link g) (goes_on g through) n k
  pub whole : (k : ℕ) → Way (link g) (goes_on g through) n k → Marked marks k

-- ---- the promises of the steps, for tables whose links lead to numbers; for others a step promises to end

abbrev pub Steps : Graph → (through : Bool) (m depth : ℕ) (before after : List ℕ) → Type 0
Steps g through m depth before after = Ready g before m depth → Walked g through before after (m ∷ [])

abbrev pub StepsAside : Graph → (through : Bool) (n depth : ℕ) (before after : List ℕ) → Type 0
StepsAside g through n depth before after = 0 < n → Ready g before n depth → Walked g through before after ((g.sides n).foreground ∷ (g.sides n).background ∷ [])

abbrev pub ReachesFrom : Graph → (through : Bool) (n size : ℕ) (marks : List ℕ) → Type 0
ReachesFrom g through n size marks = Within g size → 0 < n → n < size → Reaches g through n marks
