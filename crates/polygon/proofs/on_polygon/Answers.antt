-- `polygon::on_polygon` meets its contract.
use mathlib.Core.Path.{◌≡◌, ap, ◌∙◌}
use Rattle.polygon.proofs.HitLaws.{point_20, point_on}
use Rattle.edges.specs.Code.{crossed_of}
use Rattle.edges.specs.Corners.{corners_of, edges_of}
use Rattle.edges.specs.Crossing.{inside}
use Rattle.edges.specs.Normal.{Axis}
use Rattle.polygon.specs.Polygon.{at_crossings, on_polygon}
use Rattle.polygon.proofs.on_polygon.Goals as goal
use Rattle.polygon.proofs.on_polygon.Goals.{After-inside_of}

pub returns-then-not-is_finite_vector : goal.returns-then-not-is_finite_vector
returns-then-not-is_finite_vector c =
    let a = c.args in
    let at-along = c.along-p in
    let at-is-finite-vector = c.is_finite_vector in
    let at-if1 = c.if-not-is_finite_vector in
    point_20 a.ray a.n (edges_of (corners_of a.reals.now)) a.t at-along.result at-along.ensures at-is-finite-vector.ensures at-if1.true-raw

-- the definition, by what is inside
by-crossings : (c : After-inside_of) → let a = c.args in at_crossings a.t (crossed_of c.inside_of.result) ≡ on_polygon a.ray a.n (edges_of (corners_of a.reals.now)) a.t
by-crossings c =
    let a = c.args in
    point_on a.ray a.n (edges_of (corners_of a.reals.now)) a.t c.along-p.result c.along-p.ensures c.is_finite_vector.ensures c.if-not-is_finite_vector.false-raw (crossed_of c.inside_of.result) (c.inside_of.ensures ∙ ap (λ (x : Axis). inside x c.along-p.result (edges_of (corners_of a.reals.now))) c.dropped_of.ensures)

pub returns-in-None : goal.returns-in-None
returns-in-None c = simp c.in-None.is at (by-crossings (goal.at.returns-in-None c).After-inside_of)

pub returns-in-Some-true : goal.returns-in-Some-true
returns-in-Some-true c = simp (c.in-Some-true.is, c.in-Some-true.field-0-test) at (by-crossings (goal.at.returns-in-Some-true c).After-inside_of)

pub returns-in-Some-false : goal.returns-in-Some-false
returns-in-Some-false c = simp (c.in-Some-false.is, c.in-Some-false.field-0-test) at (by-crossings (goal.at.returns-in-Some-false c).After-inside_of)
