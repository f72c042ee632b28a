-- "each from 0 to 1; that follows from the steps".
use Rattle.std.specs.Prelude.{T, Float}
use Rattle.std.specs.Float.Ieee.{le}
use Rattle.steps.specs.Step.{+0, +1}
use Rattle.fresnel.specs.Outcome.{Outcome, coefficients, total, refused}

-- from 0 to 1
pub record InRange (x : Float) : Type 0 where
  pub least : T (le +0 x)
  pub most : T (le x +1)

-- every coefficient that an answer carries
abbrev pub AllInRange : Outcome → Type 0
AllInRange (coefficients FTE FTM F) = InRange FTE × InRange FTM × InRange F
AllInRange total = Unit
AllInRange (refused n) = Unit
