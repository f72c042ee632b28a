-- "Sphere (centre c, r above 0)": where a ray hits it.
use Rattle.std.specs.Prelude.{not, cond, ◌&&◌, [], ◌∷◌, Float}
use Rattle.std.specs.Float.Ieee.{lt, eq, neg}
use Rattle.std.specs.Float.Ieee.Scale.{finite}
use Rattle.steps.specs.Step.{step, ◌⊕◌, ◌⊖◌, ◌⊗◌, ◌⊘◌, +0}
use Rattle.steps.specs.Vectors.{dot, finite_vector, minus}
use Rattle.steps.specs.declared.Vector.{Vector}
use Rattle.root.specs.Root.{root_of}
use Rattle.hits.specs.Outcome.{Outcome, hit}
use Rattle.hits.specs.Shape.{Candidate, Meets, Shape, at, fails, hit_above}
use Rattle.hits.specs.declared.Ray.{Ray}
use Rattle.hits.specs.declared.Sphere.{Sphere}

-- a distance at which there is a hit
abbrev pub hit_at : Float → Candidate
hit_at t = record { distance = t; there = hit t }

-- "D below 0 misses; e=root D; near=((-b)-e)/a, far=((-b)+e)/a, both worked out"; "The hit is the first of near, far"
unfoldable pub solved : (a b D : Float) → Meets
solved a b D =
    let e = step (root_of D) in
    let near = (neg b ⊖ e) ⊘ a in
    let far = (neg b ⊕ e) ⊘ a in
    cond (not (finite D)) (fails 20)
    (cond (lt D +0) (at [])
    (cond (not (finite near && finite far)) (fails 20)
    (at (hit_at near ∷ hit_at far ∷ []))))

-- "a=d·d (0 is 21, at this step), b=p·d, q=p·p-r·r, D=b·b-a·q"
unfoldable pub from_centre : (p d : Vector) (r : Float) → Meets
from_centre p d r =
    let a = dot d d in
    let b = dot p d in
    let q = dot p p ⊖ r ⊗ r in
    cond (not (finite_vector p && finite a)) (fails 20)
    (cond (eq a +0) (fails 21)
    (solved a b (b ⊗ b ⊖ a ⊗ q)))

-- "p=o-c by component"
abbrev pub sphere_shape : Ray → Sphere → Shape
sphere_shape ray s = record {
  all_finite = finite_vector ray.origin && finite_vector ray.direction && finite_vector s.centre && finite s.radius;
  in_range = lt +0 s.radius;
  meets = from_centre (minus ray.origin s.centre) ray.direction s.radius;
}

abbrev pub sphere_hit : (least : Float) → Ray → Sphere → Outcome
sphere_hit l ray s = hit_above l (sphere_shape ray s)
