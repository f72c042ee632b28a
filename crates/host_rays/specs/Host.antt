-- What a host program hands in and is told of rays and reflection: small arrays of doubles, and a number for the kind of answer.
use Rattle.std.specs.Prelude.{List, [], ◌∷◌, ℕ, ◌+◌, Float, Option, Some, None, Result, Ok, Err, get_or}
use Rattle.std.specs.Float.{nan}
use Rattle.fresnel.specs.Outcome as fresnel
use Rattle.fresnel.specs.Outcome.{coefficients, total}
use Rattle.hits.specs.Outcome as hits
use Rattle.hits.specs.Outcome.{hit, miss}
use Rattle.hits.specs.declared.Ray.{Ray}
use Rattle.hits.specs.declared.Ring.{Ring}
use Rattle.hits.specs.declared.Sphere.{Sphere}
use Rattle.steps.specs.Step.{+0}
use Rattle.steps.specs.declared.Vector.{Vector}

-- ---- rays

abbrev vector_at : List Float → ℕ → Vector
vector_at a i = record { x = get_or a i nan; y = get_or a (i + 1) nan; z = get_or a (i + 2) nan }

-- origin and direction; centre and radius; centre, normal, inner and outer
unfoldable pub ray_in : List Float → Ray
ray_in a = record { origin = vector_at a 0; direction = vector_at a 3 }

unfoldable pub sphere_in : List Float → Sphere
sphere_in a = record { centre = vector_at a 0; radius = get_or a 3 nan }

unfoldable pub ring_in : List Float → Ring
ring_in a = record { centre = vector_at a 0; normal = vector_at a 3; inner = get_or a 6 nan; outer = get_or a 7 nan }

-- a hit routine's answer whose refusal is its number, whatever it is
abbrev pub numbered : Result (Option Float) ℕ → hits.Outcome
numbered (Ok (Some t)) = hit t
numbered (Ok None) = miss
numbered (Err n) = hits.refused n

-- 0 for a hit, 1 for a miss, or the refusal's number
abbrev pub hit_kind : hits.Outcome → ℕ
hit_kind (hit t) = 0
hit_kind miss = 1
hit_kind (hits.refused n) = n

abbrev pub hit_values : hits.Outcome → List Float
hit_values (hit t) = t ∷ []
hit_values miss = +0 ∷ []
hit_values (hits.refused n) = +0 ∷ []

-- ---- Fresnel

-- 0 for coefficients, 1 for total reflection, or the refusal's number
abbrev pub reflection_kind : fresnel.Outcome → ℕ
reflection_kind (coefficients e m f) = 0
reflection_kind total = 1
reflection_kind (fresnel.refused n) = n

abbrev pub reflection_values : fresnel.Outcome → List Float
reflection_values (coefficients e m f) = e ∷ m ∷ f ∷ []
reflection_values total = +0 ∷ +0 ∷ +0 ∷ []
reflection_values (fresnel.refused n) = +0 ∷ +0 ∷ +0 ∷ []
