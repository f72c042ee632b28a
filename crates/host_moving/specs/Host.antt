-- What a host program is told of a scene with its glass moved: a number for the kind of answer, and the answer's values in a small array.
use Rattle.std.specs.Prelude.{cond, List, ℕ, eqb, Float, length}
use Rattle.host_reading.specs.Host.{mode_of}
use Rattle.host_writing.specs.Host.{HostTold}
use Rattle.laws.specs.Bytes.{Bytes}
use Rattle.mover.specs.Answer.{moved_by}
use Rattle.moving.specs.declared.Direction.{Direction}
use Rattle.moving.specs.declared.Direction.TheVariants.{Back, Forth}

-- 1 is back, and any other number forth
unfoldable pub direction_of : ℕ → Direction
direction_of n = cond (eqb n 1) Back Forth

abbrev pub HostMoves : (mode direction : ℕ) (text : Bytes) (records : List ℕ) (reals : List Float) (out : Bytes) (r : ℕ) (values : List ℕ) (out' : Bytes) → Type 0
HostMoves mode direction text records reals out r values out' = HostTold (moved_by (mode_of mode) (direction_of direction) text records reals (length out)) (length out) r values out'
