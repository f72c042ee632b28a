-- Which edges a line from a point crosses: "along the first kept axis, in the positive direction".
use Rattle.std.specs.Prelude.{Bool, true, false, not, cond, ◌&&◌, List, [], ◌∷◌, Float}
use Rattle.std.proofs.Math.Option.{Option, none, some}
use Rattle.std.specs.Float.Ieee.{le, lt}
use Rattle.std.specs.Float.Ieee.Scale.{finite}
use Rattle.steps.specs.Step.{◌⊕◌, ◌⊖◌, ◌⊗◌, ◌⊘◌}
use Rattle.steps.specs.declared.Vector.{Vector}
use Rattle.edges.specs.Corners.{Edge}
use Rattle.edges.specs.Normal.{Axis, first, second}

-- whether an edge is crossed; none where a step of it is NaN or infinite
abbrev pub Crossed : Type 0
Crossed = Option Bool

module _ (a : Axis) (p : Vector) where
  -- where the edge from the lower end l to the upper end u stands on the first kept axis, at the point's height:
  -- "Lg+((Ph-Lh)·(Ug-Lg))/(Uh-Lh)"
  abbrev pub crossing : (l u : Vector) → Float
  crossing l u = first a l ⊕ (second a p ⊖ second a l) ⊗ (first a u ⊖ first a l) ⊘ (second a u ⊖ second a l)

  -- "a counting edge (no other is worked out) is crossed when [that] is above Pg"
  unfoldable pub worked_out : (l u : Vector) → Crossed
  worked_out l u = cond (finite (crossing l u)) (some (lt (first a p) (crossing l u))) none

  -- "an edge counts from its lower end inclusive to its upper end exclusive on the second kept axis"
  unfoldable pub between : (l u : Vector) → Crossed
  between l u = let worked = worked_out l u in cond (le (second a l) (second a p) && lt (second a p) (second a u)) worked (some false)

  -- the ends of an edge by their heights; an edge with both ends at one height has none between
  unfoldable pub crossed : Edge → Crossed
  crossed e =
      let rising = between e.from e.to in
      let falling = between e.to e.from in
      cond (lt (second a e.from) (second a e.to)) rising (cond (lt (second a e.to) (second a e.from)) falling (some false))

-- one edge more: crossed or not, the number of crossings so far being odd or not
abbrev pub parity : Crossed → Crossed → Crossed
parity none q = none
parity (some b) none = none
parity (some true) (some c) = some (not c)
parity (some false) (some c) = some c

-- "inside when [the line] crosses an odd number of edges"
unfoldable pub inside : Axis → (point : Vector) → List Edge → Crossed
inside a p [] = some false
inside a p (e ∷ es) = parity (crossed a p e) (inside a p es)
