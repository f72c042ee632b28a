-- What the links of a table are, said by their properties, so that nobody has to trust the recursions that compute them.
use Rattle.std.specs.Prelude.{true, cond, List, [], ◌∷◌, ◌≡◌, ℕ, suc, ◌≤◌, ◌<◌, eqb, length}
use Rattle.std.proofs.Math.Option.{Option, none, some}
use Rattle.laws.specs.Bytes.{Bytes}
use Rattle.scene.specs.Links.{gives}
use Rattle.scene.specs.Statement.{Statement}

-- statement number n of a list that stands latest first
unfoldable pub numbered : List Statement → ℕ → Option Statement
numbered [] n = none
numbered (s ∷ d) n = cond (eqb n (suc (length d))) (some s) (numbered d n)

-- statement number n gives the name w
pub record Named (d : List Statement) (n : ℕ) (w : Bytes) : Type 0 where
  pub statement : Statement
  pub there : numbered d n ≡ some statement
  pub gives : gives statement ≡ true
  pub name : statement.name ≡ w

-- n is the greatest number below k whose statement gives the name w: "the latest earlier primitive"
pub record LatestBelow (d : List Statement) (k : ℕ) (w : Bytes) (n : ℕ) : Type 0 where
  pub below : n < k
  pub named : Named d n w
  pub latest : (m : ℕ) → m < k → Named d m w → m ≤ n

-- n is the least number above k whose statement gives the name w: "the next primitive of the same name"
pub record NextAbove (d : List Statement) (k : ℕ) (w : Bytes) (n : ℕ) : Type 0 where
  pub above : k < n
  pub named : Named d n w
  pub next : (m : ℕ) → k < m → Named d m w → n ≤ m
