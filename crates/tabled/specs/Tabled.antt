-- What a rule gives for the numbers from 1 on, as a list.
use Rattle.std.specs.Prelude.{List, [], ◌∷◌, ◌++◌, ◌≡◌, ℕ, zero, suc, ◌≤◌, length, drop}

unfoldable pub tabled : (ℕ → ℕ) → (count : ℕ) → List ℕ
tabled f zero = []
tabled f (suc n) = tabled f n ++ f (suc n) ∷ []

-- the first i are written over a table
pub record Tabling (f : ℕ → ℕ) (old new : List ℕ) (i : ℕ) : Type 0 where
  pub most : i ≤ length old
  pub size : length new ≡ length old
  pub done : new ≡ tabled f i ++ drop i old
