-- "For one normal and one point, an edge run both ways never changes inside to outside."
use Rattle.std.specs.Prelude.{List, ◌∷◌, ◌++◌, Bool, ◌≡◌}
use Rattle.std.proofs.Math.Option.{none, some}
use Rattle.steps.specs.declared.Vector.{Vector}
use Rattle.edges.specs.Corners.{Edge, edge}
use Rattle.edges.specs.Crossing.{crossed, inside}
use Rattle.edges.specs.Normal.{Axis}

-- the same edge, run the other way
abbrev pub reversed : Edge → Edge
reversed e = edge e.to e.from

-- an edge and its reverse put into a list of edges, at any two places
abbrev pub both_ways : Edge → (xs ys zs : List Edge) → List Edge
both_ways e xs ys zs = xs ++ e ∷ (ys ++ reversed e ∷ zs)

-- where the edge is worked out, or does not count, inside and outside and every refusal stay as they were; where a step of it fails, the
-- list with it is refused
pub record BothWays (a : Axis) (p : Vector) (e : Edge) (xs ys zs : List Edge) : Type 0 where
  pub stays : (b : Bool) → crossed a p e ≡ some b → inside a p (both_ways e xs ys zs) ≡ inside a p (xs ++ ys ++ zs)
  pub fails : crossed a p e ≡ none → inside a p (both_ways e xs ys zs) ≡ none

abbrev pub BothWaysLaw : Type 0
BothWaysLaw = (a : Axis) (p : Vector) (e : Edge) (xs ys zs : List Edge) → BothWays a p e xs ys zs
