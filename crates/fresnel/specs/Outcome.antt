-- What the Fresnel routine answers, in document 01's words.
use Rattle.std.specs.Prelude.{ℕ, Float, Result, Ok, Err}
use Rattle.fresnel.specs.declared.Reflection.{Reflection}
use Rattle.fresnel.specs.declared.Reflection.TheVariants.{Coefficients, Total}
use Rattle.scene.specs.Reason.{reason_number}
use Rattle.scene.specs.declared.Reason.{Reason}

-- "The answer carries all three"; total reflection; "A refusal carries its number and no value"
pub data Outcome : Type 0 where
  coefficients : (FTE FTM F : Float) → Outcome
  total : Outcome
  refused : ℕ → Outcome

-- the code's answer
abbrev pub outcome_of : Result Reflection Reason → Outcome
outcome_of (Ok (Coefficients te tm f)) = coefficients te tm f
outcome_of (Ok Total) = total
outcome_of (Err r) = refused (reason_number r)
