-- What a host program is told of a scene written out: a number for the kind of answer, and the answer's values in a small array.
use Rattle.std.specs.Prelude.{Result, Ok, Err, List, ◌≡◌, ℕ, Float, length}
use Rattle.host_reading.specs.Host.{mode_of}
use Rattle.laws.specs.Bytes.{Bytes}
use Rattle.writer.specs.Answer as written
use Rattle.writer.specs.Answer.{Outcome, answered, output, tidied}

-- a writing call's answer whose refusal is a number, whatever it is, and a place
abbrev pub numbered : Result ℕ (ℕ × ℕ) → written.Answer
numbered (Ok n) = written.Written n
numbered (Err w) = written.Refused w.0 w.1

-- what a writing call comes to, in an output of so many bytes: the reason, or 0; place and length; and the output
pub record HostTold (o : Outcome) (room : ℕ) (r : ℕ) (values : List ℕ) (out' : Bytes) : Type 0 where
  pub says : r ≡ written.reason_of (answered o)
  pub numbers : values ≡ written.values_of (answered o)
  pub bytes : out' ≡ output room o

abbrev pub HostWrites : (mode : ℕ) (text : Bytes) (records : List ℕ) (reals : List Float) (out : Bytes) (r : ℕ) (values : List ℕ) (out' : Bytes) → Type 0
HostWrites mode text records reals out r values out' = HostTold (tidied (mode_of mode) text records reals (length out)) (length out) r values out'
