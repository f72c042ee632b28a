-- What a host program is told of two saves read: a number for the kind of answer, and the answer's values in a small array.
use Rattle.std.specs.Prelude.{List, ◌≡◌, ℕ, Float}
use Rattle.host_reading.specs.Host.{mode_of}
use Rattle.laws.specs.Bytes.{Bytes}
use Rattle.pair.specs.Both as both
use Rattle.pair.specs.Both.{ReadsBoth, both_answer}
use Rattle.reader.specs.Answer.{read_into}

-- the reason, or 0; side, place and counts; and all four tables
pub record HostReadsBoth (mode : ℕ) (left : Bytes) (lr : List ℕ) (lx : List Float) (right : Bytes) (rr : List ℕ) (rx : List Float) (r : ℕ) (out : List ℕ) (lr' : List ℕ) (lx' : List Float) (rr' : List ℕ) (rx' : List Float) : Type 0 where
  pub says : r ≡ both.reason_of (both_answer (read_into (mode_of mode) left lr lx) (read_into (mode_of mode) right rr rx))
  pub numbers : out ≡ both.values_of (both_answer (read_into (mode_of mode) left lr lx) (read_into (mode_of mode) right rr rx))
  pub tables : ReadsBoth (mode_of mode) left lr lx right rr rx (both_answer (read_into (mode_of mode) left lr lx) (read_into (mode_of mode) right rr rx)) lr' lx' rr' rx'
