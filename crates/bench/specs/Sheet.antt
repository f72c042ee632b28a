-- The bench sheet: the rows of document 01 that are marked P, and those of grazing light, one table.
use Rattle.std.specs.Prelude.{true, false, List, [], ◌∷◌, ℕ, ◌^◌, Float}
use Rattle.std.specs.Float.{binary64}
use Rattle.std.specs.Float.Ieee.{round}
use Rattle.laws.specs.Bytes.{Bytes, bytes}
use Rattle.numeral.specs.Numeral as numerals
use Rattle.numeral.specs.Numeral.{numeral_of, value, refusal}
use Rattle.scene.specs.Reading.{Reading, accepted, refused}
use Rattle.scene.specs.Record.{full_room}
use Rattle.scene.specs.declared.Mode.TheVariants.{New}
use Rattle.sides.specs.Read.{read}
use Rattle.steps.specs.declared.Vector.{Vector}
use Rattle.hits.specs.Ahead.{default_least}
use Rattle.hits.specs.Outcome as hits
use Rattle.hits.specs.Outcome.{hit, miss}
use Rattle.hits.specs.Sphere.{sphere_hit}
use Rattle.fresnel.specs.Outcome as fresnel
use Rattle.fresnel.specs.Outcome.{coefficients, total}
use Rattle.fresnel.specs.Fresnel.{fresnel_of}

-- a / b, and -n
abbrev ratio : (a b : ℕ) → Float
ratio a b = round binary64 false a b

abbrev minus : ℕ → Float
minus n = round binary64 true n 1

abbrev whole : ℕ → Float
whole n = ratio n 1

-- what a row asks
pub data Question : Type 0 where
  text : Bytes → Question
  numeral : Bytes → Question
  sphere_from : (x y z : Float) → Question
  fresnel_at : (cos1 n1 n2 : Float) → Question

pub data Answer : Type 0 where
  reads : Reading → Answer
  numbers : numerals.Answer → Answer
  meets : hits.Outcome → Answer
  reflects : fresnel.Outcome → Answer

abbrev vector : (x y z : Float) → Vector
vector x y z = record { x = x; y = y; z = z }

-- what the definitions give: texts in the new reading, with all the room there is, the default least distance, and "Sphere of radius 1 at the origin, direction (0,0,1)"
abbrev pub answer : Question → Answer
answer (text t) = reads (read (full_room New) t)
answer (numeral w) = numbers (numeral_of w)
answer (sphere_from x y z) = meets (sphere_hit default_least record { origin = vector x y z; direction = vector (whole 0) (whole 0) (whole 1) } record { centre = vector (whole 0) (whole 0) (whole 0); radius = whole 1 })
answer (fresnel_at c m n) = reflects (fresnel_of c m n)

pub record Row : Type 0 where
  pub question : Question
  pub expected : Answer

abbrev row : Question → Answer → Row
row q a = record { question = q; expected = a }

abbrev pub rows : List Row
rows =
    row (text []) (reads (accepted []))
    ∷ row (text (bytes "a sphere s 0 0 4 0 0 0 1")) (reads (refused 7 0))
    ∷ row (text (bytes "!x")) (reads (refused 4 0))
    ∷ row (text (bytes "void sphere s 0 0 4 0 0 0 0")) (reads (refused 16 26))
    ∷ row (numeral (bytes ".5")) (numbers (value (ratio 1 2)))
    ∷ row (numeral (bytes "-0e999")) (numbers (value (minus 0)))
    ∷ row (numeral (bytes "1e23")) (numbers (refusal 15))
    ∷ row (numeral (bytes "1e22")) (numbers (value (whole (10 ^ 22))))
    ∷ row (numeral (bytes ".")) (numbers (refusal 14))
    ∷ row (sphere_from (whole 0) (whole 0) (minus 5)) (meets (hit (whole 4)))
    ∷ row (sphere_from (whole 0) (whole 0) (whole 0)) (meets (hit (whole 1)))
    ∷ row (sphere_from (whole 2) (whole 0) (minus 5)) (meets miss)
    ∷ row (fresnel_at (whole 1) (whole 1) (whole 3)) (reflects (coefficients (ratio 1 4) (ratio 1 4) (ratio 1 4)))
    ∷ row (fresnel_at (ratio 1 2) (whole 2) (whole 1)) (reflects total)
    -- 20 until FTM was multiplied through: nothing is divided by the cosine any more, and glass seen edge-on reflects everything
    ∷ row (fresnel_at (whole 0) (whole 1) (ratio 3 2)) (reflects (coefficients (whole 1) (whole 1) (whole 1)))
    -- "Equal indices at cosine 0 still divide zero by zero"
    ∷ row (fresnel_at (whole 0) (ratio 3 2) (ratio 3 2)) (reflects (fresnel.refused 20))
    ∷ []
