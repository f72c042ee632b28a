-- `polygon::on_corners` meets its contract.
use mathlib.Core.Path.{◌≡◌, sym}
use native.Mathlib.Omega.{arith}
use Rattle.hits.specs.Outcome.{outcome_of}
use Rattle.std.proofs.lemmas.Result.{err_from_is_err_and}
use Rattle.hits.specs.Shape.{hit_of}
use Rattle.polygon.proofs.EdgeLaws.{corner_there}
use Rattle.polygon.proofs.HitLaws.{corners_20, corners_21, corners_on}
use Rattle.edges.specs.Corners.{corners_of, edges_of}
use Rattle.hits.specs.FromZero.{within}
use Rattle.polygon.specs.Polygon.{on_corners, on_polygon}
use Rattle.polygon.proofs.on_corners.Goals as goal
use Rattle.polygon.proofs.on_corners.Goals.{After-plane_hit}

pub returns-then-not-is_finite_vector : goal.returns-then-not-is_finite_vector
returns-then-not-is_finite_vector c =
    let pre = c.requires in
    let a = c.args in
    let at-normal = c.normal-n in
    let at-is-finite-vector = c.is_finite_vector in
    let at-if1 = c.if-not-is_finite_vector in
    corners_20 a.least a.ray a.reals.now _ _ (corner_there a.reals.now 0 (omega (arith, pre))) at-normal.result at-normal.ensures at-is-finite-vector.ensures at-if1.true-raw

pub returns-then-is_zero : goal.returns-then-is_zero
returns-then-is_zero c =
    let pre = c.requires in
    let a = c.args in
    let at-normal = c.normal-n in
    let at-is-finite-vector = c.is_finite_vector in
    let at-if1 = c.if-not-is_finite_vector in
    let at-is-zero = c.is_zero in
    let at-if2 = c.if-is_zero in
    corners_21 a.least a.ray a.reals.now _ _ (corner_there a.reals.now 0 (omega (arith, pre))) at-normal.result at-normal.ensures at-is-finite-vector.ensures at-if1.false-raw at-is-zero.ensures at-if2.true

-- the definition, by what the plane's hit is
by-plane : (c : After-plane_hit) →
    let a = c.args in
    hit_of a.least (on_corners a.ray (corners_of a.reals.now)) ≡ within (on_polygon a.ray c.normal-n.result (edges_of (corners_of a.reals.now))) (outcome_of c.plane_hit.result)
by-plane c =
    let a = c.args in
    sym (corners_on a.least a.ray a.reals.now c.corner.result _ c.corner.ensures c.normal-n.result c.normal-n.ensures c.is_finite_vector.ensures c.if-not-is_finite_vector.false-raw c.is_zero.ensures c.if-is_zero.false (outcome_of c.plane_hit.result) c.plane_hit.ensures)

pub returns-in_err-t : goal.returns-in_err-t
returns-in_err-t c =
    let p = err_from_is_err_and c.from_residual.result c.from_residual.ensures.1 in
    rw (by-plane (goal.at.returns-in_err-t c).After-plane_hit, c.in_err-t.was, p.1, p.2)

pub returns-in-Some : goal.returns-in-Some
returns-in-Some c = rw (by-plane (goal.at.returns-in-Some c).After-plane_hit, c.in_ok-t.was, c.in-Some.is) c.on_polygon.ensures

pub returns-in-None : goal.returns-in-None
returns-in-None c = rw (by-plane (goal.at.returns-in-None c).After-plane_hit, c.in_ok-t.was, c.in-None.is)
