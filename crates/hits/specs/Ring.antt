-- "Ring (inner at least 0, outer above inner)": where a ray hits it.
use Rattle.std.specs.Prelude.{not, cond, ◌&&◌, Float}
use Rattle.std.specs.Float.Ieee.{lt, le}
use Rattle.std.specs.Float.Ieee.Scale.{finite}
use Rattle.steps.specs.Step.{◌⊗◌, +0}
use Rattle.steps.specs.Vectors.{along, dot, finite_vector, minus}
use Rattle.hits.specs.Outcome.{Outcome, hit, miss, refused}
use Rattle.hits.specs.Plane.{in_plane}
use Rattle.hits.specs.Shape.{Shape, hit_above}
use Rattle.hits.specs.declared.Ray.{Ray}
use Rattle.hits.specs.declared.Ring.{Ring}

-- "w=(o+t·d)-c by component, s=w·w; inner² and outer² are both worked out; a hit at t when inner² ≤ s ≤ outer², else a miss"
unfoldable pub on_ring : Ray → Ring → (t : Float) → Outcome
on_ring ray g t =
    let w = minus (along ray.origin t ray.direction) g.centre in
    let s = dot w w in
    let inner² = g.inner ⊗ g.inner in
    let outer² = g.outer ⊗ g.outer in
    cond (not (finite s && finite inner² && finite outer²)) (refused 20)
    (cond (le inner² s && le s outer²) (hit t) miss)

abbrev pub ring_shape : Ray → Ring → Shape
ring_shape ray g = record {
  all_finite = finite_vector ray.origin && finite_vector ray.direction && finite_vector g.centre && finite_vector g.normal && finite g.inner && finite g.outer;
  in_range = le +0 g.inner && lt g.inner g.outer;
  meets = in_plane ray g.centre g.normal (on_ring ray g);
}

abbrev pub ring_hit : (least : Float) → Ray → Ring → Outcome
ring_hit l ray g = hit_above l (ring_shape ray g)
