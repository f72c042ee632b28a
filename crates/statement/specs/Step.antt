-- What a word comes to, told with the number of a reason.
use Rattle.std.specs.Prelude.{ℕ, Float}
use Rattle.scene.specs.Reason.{reason_number}
use Rattle.statement.specs.declared.State.{State}
use Rattle.statement.specs.declared.Step.{Step as CodeStep}
use Rattle.statement.specs.declared.Step.TheVariants as code

-- the statement goes on, with a real to store or none; it is complete, with a last real or none; the text is refused; or it ends
-- between two statements
pub data Step : Type 0 where
  Going : State → Step
  Real : State → Float → Step
  Last : State → Float → Step
  Complete : State → Step
  Refused : (reason place : ℕ) → Step
  Ended : Step

-- the code's step
abbrev pub as_step : CodeStep → Step
as_step (code.Going s) = Going s
as_step (code.Real s x) = Real s x
as_step (code.Last s x) = Last s x
as_step (code.Complete s) = Complete s
as_step (code.Refused r) = Refused (reason_number r.reason) r.place
as_step code.Ended = Ended
