-- What a host program is told of a sorted scene: a number for the kind of answer, and the answer's values in a small array.
use Rattle.std.specs.Prelude.{List, ℕ, Float, length}
use Rattle.host_reading.specs.Host.{mode_of}
use Rattle.host_writing.specs.Host.{HostTold}
use Rattle.laws.specs.Bytes.{Bytes}
use Rattle.sorter.specs.Answer.{sorted_by}

abbrev pub HostSorts : (mode : ℕ) (text : Bytes) (records : List ℕ) (reals : List Float) (out : Bytes) (r : ℕ) (values : List ℕ) (out' : Bytes) → Type 0
HostSorts mode text records reals out r values out' = HostTold (sorted_by (mode_of mode) text records reals (length out)) (length out) r values out'
