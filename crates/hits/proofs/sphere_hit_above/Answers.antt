-- `hits::sphere_hit_above` meets its contract.
use mathlib.Core.Bool.{◌&&◌}
use mathlib.Core.Path.{◌≡◌}
use lib.Ieee.{of_bits}
use lib.Ieee.Scale.{finite}
use Rattle.steps.specs.Vectors.{finite_vector}
use Rattle.hits.specs.Shape.{hit_above}
use Rattle.hits.proofs.sphere_hit_above.Goals as goal
use Rattle.hits.proofs.sphere_hit_above.Goals.{After-is_finite-2}

-- the test of the inputs, by what the calls gave
inputs : (c : After-is_finite-2) →
    let a = c.args in
    (finite_vector a.ray.origin && finite_vector a.ray.direction && finite_vector a.sphere.centre && finite a.sphere.radius && finite a.least) ≡
    (c.is_finite_vector.result && c.is_finite_vector-2.result && c.is_finite_vector-3.result && c.is_finite.result && c.is_finite-2.result)
inputs c =
    simp (← c.is_finite_vector.ensures, ← c.is_finite_vector-2.ensures, ← c.is_finite_vector-3.ensures, ← c.is_finite.ensures, ← c.is_finite-2.ensures)

pub returns-then-not-finite-is_finite : goal.returns-then-not-finite-is_finite
unfolding hit_above
returns-then-not-finite-is_finite c = simp (inputs (goal.at.returns-then-not-finite-is_finite c).After-is_finite-2, c.if-not-finite-is_finite.true-raw)

pub returns-then-not-sphere-least : goal.returns-then-not-sphere-least
unfolding hit_above of_bits
returns-then-not-sphere-least c =
    simp (inputs (goal.at.returns-then-not-sphere-least c).After-is_finite-2, c.if-not-finite-is_finite.false-raw, c.if-not-sphere-least.true-raw)

pub returns : goal.returns
unfolding hit_above of_bits
returns c =
    simp (inputs (goal.at.returns c).After-is_finite-2, c.if-not-finite-is_finite.false-raw, c.if-not-sphere-least.false-raw, ← c.minus.ensures) c.from_centre.ensures
