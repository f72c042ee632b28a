-- What a key comes to: neither scene has it, both have the same, or it has a line.
use Rattle.std.specs.Prelude.{ℕ, Option, Some, None}
use Rattle.comparison.specs.declared.Place.{Place}
use Rattle.comparison.specs.declared.State.{State}
use Rattle.comparison.specs.declared.Step.{Step as CodeStep}
use Rattle.comparison.specs.declared.Step.TheVariants as code

pub data Step : Type 0 where
  End : Step
  Same : Place → Step
  Line : Place → (nth : ℕ) → State → Step

-- as the code answers it
abbrev pub step_told : Option CodeStep → Step
step_told None = End
step_told (Some (code.Same p)) = Same p
step_told (Some (code.Line x)) = Line x.place x.nth x.state
