-- `hits::ring_hit_above` meets its contract.
use mathlib.Core.Bool.{◌&&◌}
use mathlib.Core.Path.{◌≡◌}
use Rattle.std.proofs.lemmas.Result.{err_from_is_err_and}
use lib.Ieee.{of_bits}
use lib.Ieee.Scale.{finite}
use Rattle.steps.specs.Vectors.{finite_vector}
use Rattle.hits.specs.Outcome.{outcome_of}
use Rattle.hits.proofs.ShapeLaws.{plane_within}
use Rattle.hits.specs.FromZero.{within}
use Rattle.hits.specs.Ring.{on_ring, ring_hit}
use Rattle.hits.specs.Shape.{hit_above}
use Rattle.hits.proofs.ring_hit_above.Goals as goal
use Rattle.hits.proofs.ring_hit_above.Goals.{After-is_finite-3, After-plane_hit}

-- the test of the inputs, by what the calls gave
inputs : (c : After-is_finite-3) →
    let a = c.args in
    (finite_vector a.ray.origin && finite_vector a.ray.direction && finite_vector a.ring.centre && finite_vector a.ring.normal && finite a.ring.inner && finite a.ring.outer && finite a.least) ≡
    (c.is_finite_vector.result && c.is_finite_vector-2.result && c.is_finite_vector-3.result && c.is_finite_vector-4.result && c.is_finite.result && c.is_finite-2.result && c.is_finite-3.result)
inputs c =
    simp (← c.is_finite_vector.ensures, ← c.is_finite_vector-2.ensures, ← c.is_finite_vector-3.ensures, ← c.is_finite_vector-4.ensures, ← c.is_finite.ensures, ← c.is_finite-2.ensures, ← c.is_finite-3.ensures)

-- the definition, by what the plane's hit is
by-plane : (c : After-plane_hit) →
    let a = c.args in
    ring_hit a.least a.ray a.ring ≡ within (on_ring a.ray a.ring) (outcome_of c.plane_hit.result)
unfolding hit_above of_bits
by-plane c =
    simp (← c.is_finite_vector.ensures, ← c.is_finite_vector-2.ensures, ← c.is_finite_vector-3.ensures, ← c.is_finite_vector-4.ensures, ← c.is_finite.ensures, ← c.is_finite-2.ensures, ← c.is_finite-3.ensures, c.if-not-finite-is_finite.false-raw, c.if-not-in_range-least.false-raw, plane_within, ← c.plane_hit.ensures)

pub returns-then-not-finite-is_finite : goal.returns-then-not-finite-is_finite
unfolding hit_above
returns-then-not-finite-is_finite c = simp (inputs (goal.at.returns-then-not-finite-is_finite c).After-is_finite-3, c.if-not-finite-is_finite.true-raw)

pub returns-then-not-in_range-least : goal.returns-then-not-in_range-least
unfolding hit_above of_bits
returns-then-not-in_range-least c =
    simp (inputs (goal.at.returns-then-not-in_range-least c).After-is_finite-3, c.if-not-finite-is_finite.false-raw, c.if-not-in_range-least.true-raw)

pub returns-in_err-t : goal.returns-in_err-t
returns-in_err-t c =
    let p = err_from_is_err_and c.from_residual.result c.from_residual.ensures.1 in
    rw (by-plane (goal.at.returns-in_err-t c).After-plane_hit, c.in_err-t.was, p.1, p.2)

pub returns-in-Some : goal.returns-in-Some
returns-in-Some c = rw (by-plane (goal.at.returns-in-Some c).After-plane_hit, c.in_ok-t.was, c.in-Some.is) c.on_ring.ensures

pub returns-in-None : goal.returns-in-None
returns-in-None c = rw (by-plane (goal.at.returns-in-None c).After-plane_hit, c.in_ok-t.was, c.in-None.is)
