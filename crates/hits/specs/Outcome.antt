-- What a hit routine answers, in document 01's words.
use Rattle.std.specs.Prelude.{ℕ, Float, Option, Some, None, Result, Ok, Err}
use Rattle.scene.specs.Reason.{reason_number}
use Rattle.scene.specs.declared.Reason.{Reason}

-- a hit with its distance, a miss, or "A refusal carries its number and no value"
pub data Outcome : Type 0 where
  hit : Float → Outcome
  miss : Outcome
  refused : ℕ → Outcome

-- the code's answer
abbrev pub outcome_of : Result (Option Float) Reason → Outcome
outcome_of (Ok (Some t)) = hit t
outcome_of (Ok None) = miss
outcome_of (Err r) = refused (reason_number r)
