-- Laws of shapes: tests before the distances, and what stands in a plane.
use mathlib.Core.Bool.{Bool, true, false, not, cond}
use mathlib.Core.List.{[], ◌∷◌}
use mathlib.Core.Path.{◌≡◌, refl}
use lib.Ieee.{Float, eq}
use lib.Ieee.Scale.{finite}
use Rattle.steps.specs.Step.{◌⊘◌, +0}
use Rattle.steps.specs.Vectors.{dot, minus}
use Rattle.steps.specs.declared.Vector.{Vector}
use Rattle.hits.specs.Ahead.{ahead}
use Rattle.hits.specs.FromZero.{within}
use Rattle.hits.specs.Outcome.{Outcome, hit, miss, refused}
use Rattle.hits.specs.Plane.{in_plane, plane_hit}
use Rattle.hits.specs.Shape.{Meets, at, fails, first_ahead, hit_of, or_else}
use Rattle.hits.specs.declared.Ray.{Ray}

-- a test before the distances
pub hit_cond : (l : Float) (b : Bool) (x y : Meets) → hit_of l (cond b x y) ≡ cond b (hit_of l x) (hit_of l y)
hit_cond l true x y = refl
hit_cond l false x y = refl

or_miss : (o : Outcome) → or_else o miss ≡ o
or_miss (hit t) = refl
or_miss miss = refl
or_miss (refused n) = refl

-- what stands in a plane is asked where the plane is hit
module _ (l : Float) (there : Float → Outcome) (ray : Ray) (c n : Vector) where
  pub plane_within : hit_of l (in_plane ray c n there) ≡ within there (plane_hit l ray c n)
  unfolding in_plane first_ahead
  plane_within = go (not (finite m)) (eq m +0) (not (finite t))
    where
      m : Float
      m = dot ray.direction n

      t : Float
      t = dot (minus c ray.origin) n ⊘ m

      meets : (a b c : Bool) → Outcome → Meets
      meets a b c o = cond a (fails 20) (cond b (at []) (cond c (fails 20) (at (record { distance = t; there = o } ∷ []))))

      last : (d : Bool) → cond d (or_else (there t) miss) miss ≡ within there (cond d (hit t) miss)
      last true = or_miss (there t)
      last false = refl

      go : (a b c : Bool) → hit_of l (meets a b c (there t)) ≡ within there (hit_of l (meets a b c (hit t)))
      go true b c = refl
      go false true c = refl
      go false false true = refl
      go false false false = last (ahead l t)
