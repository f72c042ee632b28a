-- The reals of moved records as the code counts them, and what is written of records that are those of a text.
use Rattle.std.specs.Prelude.{Result, Ok, Err, cond, List, ◌≡◌, ℕ, zero, suc, ◌+◌, min, eqb, length}
use Rattle.laws.specs.Bytes.{Bytes}
use Rattle.moved_text.specs.MovedText.{change_of}
use Rattle.moved_text.specs.declared.Change.{Change}
use Rattle.moved_text.specs.declared.Change.TheVariants.{Added, Dropped, Kept}
use Rattle.mover.specs.Answer.{moved_outcome}
use Rattle.moving.specs.Moved.{moved}
use Rattle.moving.specs.declared.Direction.{Direction}
use Rattle.scene.specs.Reason.{reason_number}
use Rattle.scene.specs.Reading.{Entry, accepted, read_statements, statements}
use Rattle.scene.specs.Record.{record_image, record_in}
use Rattle.scene.specs.declared.Reason.{Reason}
use Rattle.scene.specs.declared.Settings.{Settings}
use Rattle.writer.specs.Answer.{Answer}
use Rattle.writer.specs.Left.{Leaves}

-- the number of the code's answer, 0 where nothing is refused
abbrev pub number_of : Result (Unit {0}) Reason → ℕ
number_of (Err r) = reason_number r
number_of (Ok u) = 0

-- of a change, for so many reals
abbrev pub reals_by : Change → ℕ → ℕ
reals_by Kept k = min k 4097
reals_by Added k = 4
reals_by Dropped k = 3

unfoldable pub reals_in : Direction → Bytes → (table : List ℕ) → (n : ℕ) → ℕ
reals_in m text T n = cond (eqb (record_in T n).target 0) (reals_by (change_of m text T n) (record_in T n).reals) 0

unfoldable pub reals_to : Direction → Bytes → (table : List ℕ) → (n : ℕ) → ℕ
reals_to m text T zero = 0
reals_to m text T (suc n) = min (reals_to m text T n + reals_in m text T (suc n)) 4097

-- where the table is that of an accepted text: at a room for reals that a reading can have
abbrev pub LeavesMoved : Direction → Bytes → (table : List ℕ) → (room count : ℕ) → (out : Bytes) → (r : Answer) → (out' : Bytes) → Type 0
LeavesMoved m text T room count out r out' =
    (s : Settings) (es : List Entry) (k : ℕ) → read_statements s text ≡ accepted es → T ≡ record_image text k (accepted es) → count ≡ length es → min room 4096 ≡ room
    → Leaves (moved_outcome room (length out) (moved m (statements es))) out r out'
