-- What a host program is told of a join: a number for the kind of answer, and the answer's values in a small array.
use Rattle.std.specs.Prelude.{List, ◌≡◌, ℕ, Float, length}
use Rattle.host_reading.specs.Host.{mode_of}
use Rattle.join_answer.specs.Answer.{Joins, answered, reason_of, values_of}
use Rattle.joining.specs.Outcome.{Outcome, checked, proposed}
use Rattle.laws.specs.Bytes.{Bytes}
use Rattle.scene.specs.Record.{settings_for}
use Rattle.scene.specs.declared.Settings.{Settings}

-- what a call comes to: the reason, or 0; text, place, length and counts; and at exit the tables and the output
pub record HostJoins (o : Outcome) (records : List ℕ) (reals : List Float) (out : Bytes) (r : ℕ) (values : List ℕ) (records' : List ℕ) (reals' : List Float) (out' : Bytes) : Type 0 where
  pub says : r ≡ reason_of (answered o)
  pub numbers : values ≡ values_of (answered o)
  pub lent : Joins o records reals out (answered o) records' reals' out'

-- "All texts are read at the same lent sizes"
abbrev pub settings : (mode : ℕ) (records : List ℕ) (reals : List Float) → Settings
settings mode records reals = settings_for (mode_of mode) (length records) (length reals)

abbrev pub HostProposes : (mode : ℕ) (base left right : Bytes) (records : List ℕ) (reals : List Float) (out : Bytes) (r : ℕ) (values : List ℕ) (records' : List ℕ) (reals' : List Float) (out' : Bytes) → Type 0
HostProposes mode base left right records reals out r values records' reals' out' =
    HostJoins (proposed (settings mode records reals) base left right (length out)) records reals out r values records' reals' out'

abbrev pub HostChecks : (mode : ℕ) (base left right typed : Bytes) (records : List ℕ) (reals : List Float) (out : Bytes) (r : ℕ) (values : List ℕ) (records' : List ℕ) (reals' : List Float) (out' : Bytes) → Type 0
HostChecks mode base left right typed records reals out r values records' reals' out' =
    HostJoins (checked (settings mode records reals) base left right typed (length out)) records reals out r values records' reals' out'
