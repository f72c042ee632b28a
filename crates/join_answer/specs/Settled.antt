-- What comes of an accepted text whose tables are lent.
use Rattle.std.specs.Prelude.{List, ◌≡◌, ℕ, Float, length}
use Rattle.joining.specs.Outcome.{fitted}
use Rattle.laws.specs.Bytes.{Bytes}
use Rattle.scene.specs.Reading.{Entry, accepted}
use Rattle.scene.specs.Record.{real_image, real_table, record_image}
use Rattle.join_answer.specs.Answer.{Answer, Joins}

-- an accepted text with the tables of its reading
pub record Settles (text : Bytes) (records : List ℕ) (reals : List Float) (out : Bytes) (count doubles : ℕ) (r : Answer) (records' : List ℕ) (reals' : List Float) (out' : Bytes) : Type 0 where
  pub joins : (es : List Entry) → records ≡ record_image text (length records) (accepted es) → reals ≡ real_image (length reals) (accepted es) → count ≡ length es → doubles ≡ length (real_table es)
      → Joins (fitted (length out) text es) records reals out r records' reals' out'
