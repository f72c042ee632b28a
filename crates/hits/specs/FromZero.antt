-- Hits as they were before there was a least distance, kept to be compared with: a distance counted where it was above 0.
use Rattle.std.specs.Prelude.{Bool, true, not, cond, ◌&&◌, ◌≡◌, Float, pos}
use Rattle.std.specs.Float.{fin}
use Rattle.std.specs.Float.Ieee.{lt, le, eq, neg}
use Rattle.std.specs.Float.Ieee.Scale.{finite}
use Rattle.steps.specs.Step.{step, ◌⊕◌, ◌⊖◌, ◌⊗◌, ◌⊘◌, +0}
use Rattle.steps.specs.Vectors.{dot, finite_vector, minus}
use Rattle.steps.specs.declared.Vector.{Vector}
use Rattle.root.specs.Root.{root_of}
use Rattle.hits.specs.Outcome.{Outcome, hit, miss, refused}
use Rattle.hits.specs.Ring.{on_ring, ring_hit}
use Rattle.hits.specs.Shape.{Shape, hit_above}
use Rattle.hits.specs.Sphere.{sphere_hit}
use Rattle.hits.specs.declared.Ray.{Ray}
use Rattle.hits.specs.declared.Ring.{Ring}
use Rattle.hits.specs.declared.Sphere.{Sphere}

unfoldable pub above0 : (t : Float) → Bool
above0 t = lt +0 t

-- ---- the sphere

unfoldable pub first_above0 : (near far : Float) → Outcome
first_above0 near far = cond (above0 near) (hit near) (cond (above0 far) (hit far) miss)

unfoldable pub solved_from_zero : (a b D : Float) → Outcome
solved_from_zero a b D =
    let e = step (root_of D) in
    let near = (neg b ⊖ e) ⊘ a in
    let far = (neg b ⊕ e) ⊘ a in
    cond (not (finite D)) (refused 20)
    (cond (lt D +0) miss
    (cond (not (finite near && finite far)) (refused 20)
    (first_above0 near far)))

unfoldable pub centre_from_zero : (p d : Vector) (r : Float) → Outcome
centre_from_zero p d r =
    let a = dot d d in
    let b = dot p d in
    let q = dot p p ⊖ r ⊗ r in
    cond (not (finite_vector p && finite a)) (refused 20)
    (cond (eq a +0) (refused 21)
    (solved_from_zero a b (b ⊗ b ⊖ a ⊗ q)))

unfoldable pub sphere_from_zero : Ray → Sphere → Outcome
sphere_from_zero ray s =
    cond (not (finite_vector ray.origin && finite_vector ray.direction && finite_vector s.centre && finite s.radius)) (refused 20)
    (cond (not (lt +0 s.radius)) (refused 21)
    (centre_from_zero (minus ray.origin s.centre) ray.direction s.radius))

-- ---- the ring

unfoldable pub plane_from_zero : Ray → (c n : Vector) → Outcome
plane_from_zero ray c n =
    let m = dot ray.direction n in
    let t = dot (minus c ray.origin) n ⊘ m in
    cond (not (finite m)) (refused 20)
    (cond (eq m +0) miss
    (cond (not (finite t)) (refused 20)
    (cond (above0 t) (hit t) miss)))

-- what the hit of a plane comes to, where there says what stands in it
abbrev pub within : (there : Float → Outcome) → Outcome → Outcome
within there (hit t) = there t
within there miss = miss
within there (refused n) = refused n

unfoldable pub ring_from_zero : Ray → Ring → Outcome
ring_from_zero ray g =
    cond (not (finite_vector ray.origin && finite_vector ray.direction && finite_vector g.centre && finite_vector g.normal && finite g.inner && finite g.outer)) (refused 20)
    (cond (not (le +0 g.inner && lt g.inner g.outer)) (refused 21)
    (within (on_ring ray g) (plane_from_zero ray g.centre g.normal)))

-- ---- "The lamp tracer passes 0 by name and must get its old answers bit for bit"

pub record OldAnswers : Type 0 where
  pub sphere : (ray : Ray) (s : Sphere) → sphere_hit +0 ray s ≡ sphere_from_zero ray s
  pub ring : (ray : Ray) (g : Ring) → ring_hit +0 ray g ≡ ring_from_zero ray g
  -- -0 is 0, for every shape
  pub minus_zero : (s : Shape) → hit_above (fin true 0 (pos 0)) s ≡ hit_above +0 s
