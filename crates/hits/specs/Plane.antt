-- Where a ray meets a plane: the first steps of the ring.
use Rattle.std.specs.Prelude.{not, cond, [], ◌∷◌, Float}
use Rattle.std.specs.Float.Ieee.{eq}
use Rattle.std.specs.Float.Ieee.Scale.{finite}
use Rattle.steps.specs.Step.{◌⊘◌, +0}
use Rattle.steps.specs.Vectors.{dot, minus}
use Rattle.steps.specs.declared.Vector.{Vector}
use Rattle.hits.specs.Outcome.{Outcome, hit}
use Rattle.hits.specs.Shape.{Meets, at, fails, hit_of}
use Rattle.hits.specs.declared.Ray.{Ray}

-- "m=d·n; 0 misses; t=((c-o)·n)/m; t not above [the least distance] misses": there says what stands in the plane at a distance
unfoldable pub in_plane : Ray → (c n : Vector) → (there : Float → Outcome) → Meets
in_plane ray c n there =
    let m = dot ray.direction n in
    let t = dot (minus c ray.origin) n ⊘ m in
    cond (not (finite m)) (fails 20)
    (cond (eq m +0) (at [])
    (cond (not (finite t)) (fails 20)
    (at (record { distance = t; there = there t } ∷ []))))

-- the plane itself
abbrev pub plane_hit : (least : Float) → Ray → (c n : Vector) → Outcome
plane_hit l ray c n = hit_of l (in_plane ray c n hit)
