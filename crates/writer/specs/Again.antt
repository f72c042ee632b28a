-- The tidy text written again.
use Rattle.std.specs.Prelude.{List, ◌≡◌, ℕ, ◌≤◌, length}
use Rattle.laws.specs.Bytes.{Bytes}
use Rattle.scene.specs.Reading.{Entry, accepted, statements}
use Rattle.scene.specs.Record.{record_image, real_image, settings_for}
use Rattle.scene.specs.declared.Mode.{Mode}
use Rattle.sides.specs.Read.{read}
use Rattle.tidying.specs.Tidy.{tidy}
use Rattle.writer.specs.Answer.{Outcome, fitted, tidied}

-- a call in a mode on a text and on the tables that reading it leaves in so many numbers and reals
abbrev pub written_from : Mode → Bytes → (numbers reals room : ℕ) → Outcome
written_from mode text n m room =
    let x = read (settings_for mode n m) text in
    tidied mode text (record_image text n x) (real_image m x) room

-- "From a text and its accepted tables we want tidy text"; "writing it again gives the same bytes"
pub record WritesAgain (mode : Mode) (text : Bytes) (n m room : ℕ) (es : List Entry) : Type 0 where
  pub written : written_from mode text n m room ≡ fitted room (tidy (statements es))
  pub again : written_from mode (tidy (statements es)) n m room ≡ written_from mode text n m room

abbrev pub WriteAgainLaw : Type 0
WriteAgainLaw = (mode : Mode) (text : Bytes) (n m room : ℕ) (es : List Entry) → read (settings_for mode n m) text ≡ accepted es → length (tidy (statements es)) ≤ 65536 → WritesAgain mode text n m room es
