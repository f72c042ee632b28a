-- The hit, answer by answer.
use mathlib.Core.Bool.{Bool, true, false, not, cond, ◌&&◌}
use mathlib.Core.List.{List, ◌∷◌}
use mathlib.Core.Path.{◌≡◌, refl, ap, sym, ◌∙◌, subst}
use Prim.Native.Nat.{◌≤◌, ◌%◌}
use borrow.Author.Tests.{leb-true, not-false}
use lib.Dec.{eqb, leb}
use lib.Ieee.{Float, le}
use lib.Ieee.Scale.{finite}
use lib.ListN.{length}
use Rattle.hits.specs.Outcome.{Outcome, refused}
use Rattle.hits.proofs.ShapeLaws.{hit_cond, plane_within}
use Rattle.hits.specs.FromZero.{within}
use Rattle.hits.specs.Plane.{in_plane, plane_hit}
use Rattle.hits.specs.Shape.{fails, hit_above, hit_of}
use Rattle.hits.specs.declared.Ray.{Ray}
use Rattle.laws.proofs.BoolLaws.{and_left}
use Rattle.laws.specs.Runs.{all}
use Rattle.steps.specs.Step.{+0}
use Rattle.steps.specs.Vectors.{along, finite_vector}
use Rattle.steps.specs.declared.Vector.{Vector}
use Rattle.edges.specs.Corners.{Edge, corners_of, edges_of}
use Rattle.edges.specs.Crossing.{Crossed, inside}
use Rattle.edges.specs.Normal.{dropped, is_zero, normal_of}
use Rattle.polygon.specs.Polygon.{at_crossings, on_corners, on_polygon, polygon_hit}

-- ---- at the distance t

module _ (ray : Ray) (n : Vector) (es : List Edge) (t : Float) (p : Vector) (q : p ≡ along ray.origin t ray.direction) {b : Bool} (f : b ≡ finite_vector p) where
  at_point : on_polygon ray n es t ≡ cond (not b) (refused 20) (at_crossings t (inside (dropped n) p es))
  unfolding on_polygon
  at_point = sym (λ i. cond (not ((f ∙ ap finite_vector q) i)) (refused 20) (at_crossings t (inside (dropped n) (q i) es)))

  pub point_20 : not b ≡ true → refused 20 ≡ on_polygon ray n es t
  point_20 h = sym (at_point ∙ ap (λ (z : Bool). cond z (refused 20) (at_crossings t (inside (dropped n) p es))) h)

  pub point_on : not b ≡ false → (q : Crossed) → q ≡ inside (dropped n) p es → at_crossings t q ≡ on_polygon ray n es t
  point_on h q e = ap (at_crossings t) e ∙ sym (at_point ∙ ap (λ (z : Bool). cond z (refused 20) (at_crossings t (inside (dropped n) p es))) h)

-- ---- from the corners on

module _ (least : Float) (ray : Ray) (l : List Float) (c : Vector) (cs : List Vector) (e : corners_of l ≡ c ∷ cs) (n : Vector) (q : n ≡ normal_of (edges_of (corners_of l))) {b : Bool} (f : b ≡ finite_vector n) where
  abbrev there : Float → Outcome
  there = on_polygon ray n (edges_of (corners_of l))

  abbrev rest : Outcome
  rest = within there (plane_hit least ray c n)

  -- with the first corner and the normal by name
  by_parts : on_corners ray (corners_of l) ≡ cond (not b) (fails 20) (cond (is_zero n) (fails 21) (in_plane ray c n there))
  by_parts =
      subst (λ (z : List Vector). on_corners ray z ≡ cond (not (finite_vector (normal_of (edges_of z)))) (fails 20) (cond (is_zero (normal_of (edges_of z))) (fails 21) (in_plane ray c (normal_of (edges_of z)) (on_polygon ray (normal_of (edges_of z)) (edges_of z))))) (sym e) refl
      ∙ sym (λ i. cond (not ((f ∙ ap finite_vector q) i)) (fails 20) (cond (is_zero (q i)) (fails 21) (in_plane ray c (q i) (on_polygon ray (q i) (edges_of (corners_of l))))))

  by_corner : hit_of least (on_corners ray (corners_of l)) ≡ cond (not b) (refused 20) (cond (is_zero n) (refused 21) rest)
  by_corner =
      ap (hit_of least) by_parts
      ∙ hit_cond least (not b) (fails 20) (cond (is_zero n) (fails 21) (in_plane ray c n there))
      ∙ ap (cond (not b) (refused 20)) (hit_cond least (is_zero n) (fails 21) (in_plane ray c n there) ∙ ap (cond (is_zero n) (refused 21)) (plane_within least there ray c n))

  pub corners_20 : not b ≡ true → refused 20 ≡ hit_of least (on_corners ray (corners_of l))
  corners_20 h = sym (by_corner ∙ ap (λ (z : Bool). cond z (refused 20) (cond (is_zero n) (refused 21) rest)) h)

  module _ (h : not b ≡ false) {z : Bool} (g : z ≡ is_zero n) where
    pub corners_21 : z ≡ true → refused 21 ≡ hit_of least (on_corners ray (corners_of l))
    corners_21 k = sym (by_corner ∙ (λ i. cond (h i) (refused 20) (cond ((sym g ∙ k) i) (refused 21) rest)))

    pub corners_on : z ≡ false → (o : Outcome) → o ≡ plane_hit least ray c n → within there o ≡ hit_of least (on_corners ray (corners_of l))
    corners_on k o r = ap (within there) r ∙ sym (by_corner ∙ (λ i. cond (h i) (refused 20) (cond ((sym g ∙ k) i) (refused 21) rest)))

-- ---- the whole

module _ (least : Float) (ray : Ray) (l : List Float) {x y z w : Bool} (a : x ≡ finite_vector ray.origin) (b : y ≡ finite_vector ray.direction) (c : z ≡ all finite l) (d : w ≡ finite least) where
  abbrev in_range : Bool
  in_range = leb 9 (length l) && eqb (length l % 3) 0 && le +0 least

  by_inputs : polygon_hit least ray l ≡ cond (not (x && y && z && w)) (refused 20) (cond (not in_range) (refused 21) (hit_of least (on_corners ray (corners_of l))))
  unfolding hit_above
  by_inputs = sym (λ i. cond (not (a i && b i && c i && d i)) (refused 20) (cond (not in_range) (refused 21) (hit_of least (on_corners ray (corners_of l)))))

  pub inputs_20 : not (x && y && z && w) ≡ true → refused 20 ≡ polygon_hit least ray l
  inputs_20 h = sym (by_inputs ∙ ap (λ (w : Bool). cond w (refused 20) (cond (not in_range) (refused 21) (hit_of least (on_corners ray (corners_of l))))) h)

  module _ (h : not (x && y && z && w) ≡ false) where
    pub inputs_21 : not in_range ≡ true → refused 21 ≡ polygon_hit least ray l
    inputs_21 k = sym (by_inputs ∙ (λ i. cond (h i) (refused 20) (cond (k i) (refused 21) (hit_of least (on_corners ray (corners_of l))))))

    pub inputs_on : not in_range ≡ false → hit_of least (on_corners ray (corners_of l)) ≡ polygon_hit least ray l
    inputs_on k = sym (by_inputs ∙ (λ i. cond (h i) (refused 20) (cond (k i) (refused 21) (hit_of least (on_corners ray (corners_of l))))))

pub enough : (l : List Float) (least : Float) → not (leb 9 (length l) && eqb (length l % 3) 0 && le +0 least) ≡ false → 9 ≤ length l
enough l least h =
    let both = and_left (leb 9 (length l) && eqb (length l % 3) 0) (le +0 least) (not-false (leb 9 (length l) && eqb (length l % 3) 0 && le +0 least) h) in
    leb-true 9 (length l) (and_left (leb 9 (length l)) (eqb (length l % 3) 0) both)
