-- "Screens are polygons": where a ray hits one.
use Rattle.std.specs.Prelude.{true, false, not, cond, ◌&&◌, List, [], ◌∷◌, ◌%◌, eqb, leb, Float, length}
use Rattle.std.proofs.Math.Option.{none, some}
use Rattle.std.specs.Float.Ieee.Scale.{finite}
use Rattle.hits.specs.Outcome.{Outcome, hit, miss, refused}
use Rattle.hits.specs.Plane.{in_plane}
use Rattle.hits.specs.Shape.{Meets, Shape, fails, hit_above}
use Rattle.hits.specs.declared.Ray.{Ray}
use Rattle.laws.specs.Runs.{all}
use Rattle.steps.specs.Vectors.{along, finite_vector}
use Rattle.steps.specs.declared.Vector.{Vector}
use Rattle.edges.specs.Corners.{Edge, corners_of, edges_of}
use Rattle.edges.specs.Crossing.{Crossed, inside}
use Rattle.edges.specs.Normal.{dropped, is_zero, normal_of}

-- what the crossings come to, at the distance t
abbrev pub at_crossings : (t : Float) → Crossed → Outcome
at_crossings t none = refused 20
at_crossings t (some true) = hit t
at_crossings t (some false) = miss

-- "The hit point, worked out on all three axes"
unfoldable pub on_polygon : Ray → (n : Vector) → List Edge → (t : Float) → Outcome
on_polygon ray n es t =
    let p = along ray.origin t ray.direction in
    cond (not (finite_vector p)) (refused 20) (at_crossings t (inside (dropped n) p es))

-- "the distance is found as for a ring, with the first corner for its centre"; "21 also for [..] a zero normal"
abbrev pub on_corners : Ray → List Vector → Meets
on_corners ray [] = fails 21
on_corners ray (c ∷ cs) =
    let es = edges_of (c ∷ cs) in
    let n = normal_of es in
    cond (not (finite_vector n)) (fails 20)
    (cond (is_zero n) (fails 21)
    (in_plane ray c n (on_polygon ray n es)))

-- "21 also for fewer than 3 corners, reals not a multiple of 3"
abbrev pub polygon_shape : Ray → (reals : List Float) → Shape
polygon_shape ray rs = record {
  all_finite = finite_vector ray.origin && finite_vector ray.direction && all finite rs;
  in_range = leb 9 (length rs) && eqb (length rs % 3) 0;
  meets = on_corners ray (corners_of rs);
}

abbrev pub polygon_hit : (least : Float) → Ray → (reals : List Float) → Outcome
polygon_hit l ray rs = hit_above l (polygon_shape ray rs)
