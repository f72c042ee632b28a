-- What is answered after a key: that no line is left, or the next line.
use Rattle.std.specs.Prelude.{ℕ, Option, Some, None}
use Rattle.comparison.specs.declared.Line.{Line as CodeLine}
use Rattle.comparison.specs.declared.Place.{Place}
use Rattle.comparison.specs.declared.State.{State}

-- a line: a primitive with its key, its nth, and its state
pub data Next : Type 0 where
  End : Next
  Line : Place → (nth : ℕ) → State → Next

-- as the code answers it
abbrev pub answer_of : Option CodeLine → Next
answer_of None = End
answer_of (Some x) = Line x.place x.nth x.state
