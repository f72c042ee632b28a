-- The list as the code fills it, number by number.
use Rattle.std.specs.Prelude.{Bool, cond, not, ◌&&◌, List, [], ◌∷◌, ◌≡◌, ℕ, zero, suc, ◌+◌, ◌<◌, ◌≤◌, eqb, length, get_or, set}
use Rattle.graph.specs.Graph.{Graph}
use Rattle.mixtures.specs.Walk.{Within}
use Rattle.scene.specs.Record.{field_in}
use Rattle.scene.specs.Types.{is_material}

-- as many of the numbers as there is room for, zeros after
unfoldable pub padded : (room : ℕ) → List ℕ → List ℕ
padded zero xs = []
padded (suc room) [] = 0 ∷ padded room []
padded (suc room) (x ∷ xs) = x ∷ padded room xs

unfoldable pub marked_material : (records marks : List ℕ) → ℕ → Bool
marked_material records marks n = not (eqb (get_or marks n 0) 0) && is_material (field_in records n 0)

-- one number more, where it is a marked material
pub record Adds (records marks list : List ℕ) (n used : ℕ) (after : List ℕ) (r : ℕ) : Type 0 where
  pub total : r ≡ used + cond (marked_material records marks n) 1 0
  pub stands : after ≡ cond (marked_material records marks n) (set list used n) list

-- a list of some room holds these, and the answer says how many there are
pub record Holds (xs : List ℕ) (room : ℕ) (after : List ℕ) (r : ℕ) : Type 0 where
  pub total : r ≡ length xs
  pub stands : after ≡ padded room xs

-- what is known where the table is tested
pub record Numbered (count n size : ℕ) : Type 0 where
  pub few : count ≤ 1024
  pub some : 0 < n
  pub within : n ≤ count
  pub sized : size ≡ count + 1

pub record Walkable (g : Graph) (size n : ℕ) : Type 0 where
  pub within : Within g size
  pub small : size ≤ 1025
  pub some : 0 < n
  pub there : n < size
