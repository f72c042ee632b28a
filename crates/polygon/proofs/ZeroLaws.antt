-- With the least distance 0 a polygon's answers are the old ones.
use mathlib.Core.Bool.{Bool, not, ◌&&◌, ◌||◌, and-true}
use mathlib.Core.List.{List, [], ◌∷◌}
use mathlib.Core.Path.{◌≡◌, refl}
use Prim.Native.Nat.{ℕ, ◌≤◌, ◌<◌}
use mathlib.Core.Logic.{◌⊎◌, inl, inr}
use borrow.Author.Tests.{le-leb, le-ltb, lt-leb, lt-ltb}
use lib.Dec.{leb, ltb}
use Rattle.edges.specs.Corners.{edges_of}
use Rattle.edges.specs.Normal.{normal_of}
use Rattle.hits.proofs.ShapeLaws.{hit_cond, plane_within}
use Rattle.hits.proofs.ZeroLaws.{plane_old, zero_allowed}
use Rattle.hits.specs.Shape.{hit_above, hit_of}
use Rattle.hits.specs.declared.Ray.{Ray}
use Rattle.laws.proofs.NatLaws.{le_or_lt}
use Rattle.steps.specs.Step.{+0}
use Rattle.steps.specs.declared.Vector.{Vector}
use Rattle.polygon.specs.FromZero.{OldAnswers, corners_from_zero, polygon_from_zero}
use Rattle.polygon.specs.Polygon.{on_corners, on_polygon}

corners_old : (ray : Ray) (cs : List Vector) → hit_of +0 (on_corners ray cs) ≡ corners_from_zero ray cs
corners_old ray [] = refl
corners_old ray (c ∷ cs) = let n = normal_of (edges_of (c ∷ cs)) in simp (hit_cond, plane_within +0 (on_polygon ray n (edges_of (c ∷ cs))) ray c n, plane_old)

-- the test of the count, said the other way round
counts : (n : ℕ) (b : Bool) → not (leb 9 n && b) ≡ (ltb n 9 || not b)
counts n b = go (le_or_lt 9 n)
  where
    go : (9 ≤ n) ⊎ (n < 9) → not (leb 9 n && b) ≡ (ltb n 9 || not b)
    go (inl h) = rw (le-leb 9 n h, le-ltb n 9 h)
    go (inr h) = rw (lt-leb 9 n h, lt-ltb n 9 h)

pub old_answers : OldAnswers
unfolding hit_above polygon_from_zero
old_answers ray rs = simp (and-true, zero_allowed, counts, corners_old)
