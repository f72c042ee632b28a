-- What every shape is to a ray: inputs to be tested, and the distances at which it may be hit, in order.
use Rattle.std.specs.Prelude.{Bool, not, cond, ◌&&◌, List, [], ◌∷◌, ℕ, Float}
use Rattle.std.specs.Float.Ieee.{le}
use Rattle.std.specs.Float.Ieee.Scale.{finite}
use Rattle.steps.specs.Step.{+0}
use Rattle.hits.specs.Ahead.{ahead}
use Rattle.hits.specs.Outcome.{Outcome, hit, miss, refused}

-- a distance, and what the shape makes of it
pub record Candidate : Type 0 where
  pub distance : Float
  pub there : Outcome

-- where a shape makes nothing of a distance, the next one counts
abbrev pub or_else : Outcome → Outcome → Outcome
or_else (hit t) later = hit t
or_else miss later = later
or_else (refused n) later = refused n

-- the first that is ahead and hits; of one that is not ahead nothing is worked out
unfoldable pub first_ahead : (least : Float) → List Candidate → Outcome
first_ahead l [] = miss
first_ahead l (c ∷ cs) = let later = first_ahead l cs in cond (ahead l c.distance) (or_else c.there later) later

-- what the steps before that come to: candidates, or a refusal's number
pub data Meets : Type 0 where
  at : List Candidate → Meets
  fails : ℕ → Meets

abbrev pub hit_of : (least : Float) → Meets → Outcome
hit_of l (at cs) = first_ahead l cs
hit_of l (fails n) = refused n

pub record Shape : Type 0 where
  pub all_finite : Bool
  pub in_range : Bool
  pub meets : Meets

-- "Inputs are tested first, 20 before 21", the least distance among them: "21 for a negative least distance"
unfoldable pub hit_above : (least : Float) → Shape → Outcome
hit_above l s =
    cond (not (s.all_finite && finite l)) (refused 20)
    (cond (not (s.in_range && le +0 l)) (refused 21)
    (hit_of l s.meets))
