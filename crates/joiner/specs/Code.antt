-- What the parts of the joining calls promise.
use Rattle.std.specs.Prelude.{true, List, ◌++◌, ◌≡◌, ℕ, Float, length}
use Rattle.join_meaning.specs.Kept.{in_turn}
use Rattle.join_meaning.specs.Written.{Numbers}
use Rattle.join_answer.specs.Answer.{Joins}
use Rattle.join_answer.specs.Answer.{Answer}
use Rattle.joining.specs.Outcome.{Outcome, check_plan, planned, propose_plan, read_as}
use Rattle.laws.specs.Bytes.{Bytes}
use Rattle.reader.specs.Answer.{read_into}
use Rattle.scene.specs.Reading.{Entry, accepted, statements}
use Rattle.scene.specs.Record.{settings_for}
use Rattle.scene.specs.declared.Mode.{Mode}
use Rattle.sides.specs.Read.{read}

abbrev pub read_proposed : Mode → Bytes → (records : List ℕ) (reals : List Float) (room : ℕ) → Outcome
read_proposed mode text records reals room = read_as (λ d. true) room text (read_into mode text records reals)

-- where both hands' texts are accepted and the order has their numbers
pub record ProposesOrder (mode : Mode) (left right : Bytes) (order : List ℕ) (records : List ℕ) (reals : List Float) (out : Bytes) (r : Answer) (records' : List ℕ) (reals' : List Float) (out' : Bytes) : Type 0 where
  pub joins : (ls rs : List Entry) → let s = settings_for mode (length records) (length reals) in read s left ≡ accepted ls → read s right ≡ accepted rs → Numbers (length (statements ls ++ statements rs)) order
      → Joins (propose_plan s (length out) (planned (in_turn (statements ls ++ statements rs) order))) records reals out r records' reals' out'

pub record ChecksOrder (mode : Mode) (left right typed : Bytes) (order : List ℕ) (records : List ℕ) (reals : List Float) (out : Bytes) (r : Answer) (records' : List ℕ) (reals' : List Float) (out' : Bytes) : Type 0 where
  pub joins : (ls rs : List Entry) → let s = settings_for mode (length records) (length reals) in read s left ≡ accepted ls → read s right ≡ accepted rs → Numbers (length (statements ls ++ statements rs)) order
      → Joins (check_plan s typed (length out) (planned (in_turn (statements ls ++ statements rs) order))) records reals out r records' reals' out'
