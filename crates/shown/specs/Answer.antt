-- What the code answers, as the definitions have it.
use Rattle.std.specs.Prelude.{ℕ, Result, Ok, Err}
use Rattle.scene.specs.Reason.{reason_number}
use Rattle.scene.specs.declared.Reason.{Reason}
use Rattle.shown.specs.Shown.{Shown, Listed, Refused}

abbrev pub shown_of : Result ℕ Reason → Shown
shown_of (Ok n) = Listed n
shown_of (Err r) = Refused (reason_number r)
