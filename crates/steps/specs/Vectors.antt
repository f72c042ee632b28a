-- Vectors of three doubles, worked out by steps.
use Rattle.std.specs.Prelude.{Bool, ◌&&◌, Float}
use Rattle.std.specs.Float.Ieee.Scale.{finite}
use Rattle.steps.specs.Step.{◌⊕◌, ◌⊖◌, ◌⊗◌}
use Rattle.steps.specs.declared.Vector.{Vector}

-- no part is NaN or infinite
unfoldable pub finite_vector : Vector → Bool
finite_vector v = finite v.x && finite v.y && finite v.z

-- "sums of three as (x+y)+z"
unfoldable pub dot : Vector → Vector → Float
dot a b = a.x ⊗ b.x ⊕ a.y ⊗ b.y ⊕ a.z ⊗ b.z

-- "by component"
unfoldable pub minus : Vector → Vector → Vector
minus a b = record { x = a.x ⊖ b.x; y = a.y ⊖ b.y; z = a.z ⊖ b.z }

-- "o+t·d", "by component"
unfoldable pub along : (o : Vector) (t : Float) (d : Vector) → Vector
along o t d = record { x = o.x ⊕ t ⊗ d.x; y = o.y ⊕ t ⊗ d.y; z = o.z ⊕ t ⊗ d.z }
