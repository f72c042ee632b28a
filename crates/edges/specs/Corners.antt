-- The corners of a polygon, and its edges "from the first to the closing one".
use Rattle.std.specs.Prelude.{List, [], ◌∷◌, Float}
use Rattle.steps.specs.declared.Vector.{Vector}

-- three reals are a corner; what is left over is none
unfoldable pub corners_of : List Float → List Vector
corners_of [] = []
corners_of (x ∷ []) = []
corners_of (x ∷ y ∷ []) = []
corners_of (x ∷ y ∷ z ∷ rs) = record { x = x; y = y; z = z } ∷ corners_of rs

-- two consecutive corners
pub record Edge : Type 0 where
  pub from : Vector
  pub to : Vector

abbrev pub edge : Vector → Vector → Edge
edge a b = record { from = a; to = b }

-- the edges from a corner on, the last one leading back to the first corner
unfoldable pub edges_from : (first corner : Vector) → List Vector → List Edge
edges_from first c [] = edge c first ∷ []
edges_from first c (d ∷ cs) = edge c d ∷ edges_from first d cs

abbrev pub edges_of : List Vector → List Edge
edges_of [] = []
edges_of (c ∷ cs) = edges_from c c cs
