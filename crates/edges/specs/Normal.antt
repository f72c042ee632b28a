-- The normal of a polygon, and the axis that is dropped for it.
use Rattle.std.specs.Prelude.{Bool, ◌&&◌, cond, List, [], ◌∷◌, Float}
use Rattle.std.specs.Float.Ieee.{eq, lt, neg}
use Rattle.steps.specs.Step.{◌⊕◌, ◌⊖◌, ◌⊗◌, +0}
use Rattle.steps.specs.declared.Vector.{Vector}
use Rattle.edges.specs.Corners.{Edge}

-- "the cross products of consecutive corners"
unfoldable pub cross : Edge → Vector
cross e =
    let a = e.from in
    let b = e.to in
    record { x = a.y ⊗ b.z ⊖ a.z ⊗ b.y; y = a.z ⊗ b.x ⊖ a.x ⊗ b.z; z = a.x ⊗ b.y ⊖ a.y ⊗ b.x }

abbrev pub plus : Vector → Vector → Vector
plus a b = record { x = a.x ⊕ b.x; y = a.y ⊕ b.y; z = a.z ⊕ b.z }

-- "the sum over edges, from the first to the closing one": each product is added to the sum so far
unfoldable pub sum_from : Vector → List Edge → Vector
sum_from n [] = n
sum_from n (e ∷ es) = sum_from (plus n (cross e)) es

-- the sum starts as the first edge's product; no edges have none
unfoldable pub normal_of : List Edge → Vector
normal_of [] = record { x = +0; y = +0; z = +0 }
normal_of (e ∷ es) = sum_from (cross e) es

unfoldable pub is_zero : Vector → Bool
is_zero n = eq n.x +0 && eq n.y +0 && eq n.z +0

-- ---- the dropped axis

pub data Axis : Type 0 where
  x y z : Axis

-- a magnitude; that of -0 is 0
unfoldable pub magnitude : Float → Float
magnitude t = cond (lt t +0) (neg t) t

-- "Drop the axis whose normal part is largest in magnitude, x before y before z on ties"
unfoldable pub dropped : Vector → Axis
dropped n =
    let not_x = cond (lt (magnitude n.y) (magnitude n.z)) z y in
    let not_y = cond (lt (magnitude n.x) (magnitude n.z)) z x in
    cond (lt (magnitude n.x) (magnitude n.y)) not_x not_y

-- the two that are kept, in the order x, y, z
abbrev pub first : Axis → Vector → Float
first x v = v.y
first y v = v.x
first z v = v.x

abbrev pub second : Axis → Vector → Float
second x v = v.z
second y v = v.z
second z v = v.y
