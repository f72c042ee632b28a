-- Hits on a polygon as they were before there was a least distance, kept to be compared with.
use Rattle.std.specs.Prelude.{not, cond, ◌&&◌, ◌||◌, List, [], ◌∷◌, ◌≡◌, ◌%◌, eqb, ltb, Float, length}
use Rattle.std.specs.Float.Ieee.Scale.{finite}
use Rattle.edges.specs.Corners.{corners_of, edges_of}
use Rattle.edges.specs.Normal.{is_zero, normal_of}
use Rattle.hits.specs.FromZero.{plane_from_zero, within}
use Rattle.hits.specs.Outcome.{Outcome, refused}
use Rattle.hits.specs.declared.Ray.{Ray}
use Rattle.laws.specs.Runs.{all}
use Rattle.steps.specs.Step.{+0}
use Rattle.steps.specs.Vectors.{finite_vector}
use Rattle.steps.specs.declared.Vector.{Vector}
use Rattle.polygon.specs.Polygon.{on_polygon, polygon_hit}

abbrev pub corners_from_zero : Ray → List Vector → Outcome
corners_from_zero ray [] = refused 21
corners_from_zero ray (c ∷ cs) =
    let es = edges_of (c ∷ cs) in
    let n = normal_of es in
    cond (not (finite_vector n)) (refused 20)
    (cond (is_zero n) (refused 21)
    (within (on_polygon ray n es) (plane_from_zero ray c n)))

unfoldable pub polygon_from_zero : Ray → (reals : List Float) → Outcome
polygon_from_zero ray rs =
    cond (not (finite_vector ray.origin && finite_vector ray.direction && all finite rs)) (refused 20)
    (cond (ltb (length rs) 9 || not (eqb (length rs % 3) 0)) (refused 21)
    (corners_from_zero ray (corners_of rs)))

-- "The lamp tracer passes 0 by name and must get its old answers bit for bit"
abbrev pub OldAnswers : Type 0
OldAnswers = (ray : Ray) (rs : List Float) → polygon_hit +0 ray rs ≡ polygon_from_zero ray rs
