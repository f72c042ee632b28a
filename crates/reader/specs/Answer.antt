-- What the reader answers, and what it leaves in the lent tables.
use Rattle.std.specs.Prelude.{List, ◌≡◌, ℕ, Float, length, Result, Ok, Err}
use Rattle.laws.specs.Bytes.{Bytes}
use Rattle.reader.specs.declared.Counts.{Counts}
use Rattle.scene.specs.Reason.{reason_number}
use Rattle.scene.specs.Reading.{Reading, accepted, refused}
use Rattle.scene.specs.Record.{answer, record_image, real_image, real_table, settings_for, Answer as Numbers}
use Rattle.scene.specs.declared.Mode.{Mode}
use Rattle.scene.specs.declared.Refusal.{Refusal}
use Rattle.sides.specs.Read.{read}

-- accepted with the counts of primitives and reals, or refused with the number of a reason and a place
pub data Answer : Type 0 where
  Accepted : (primitives reals : ℕ) → Answer
  Refused : (reason place : ℕ) → Answer

-- what the code answers
abbrev pub answer_of : Result Counts Refusal → Answer
answer_of (Ok c) = Accepted c.primitives c.reals
answer_of (Err r) = Refused (reason_number r.reason) r.place

-- the answer that a reading comes to
abbrev pub answered : Reading → Answer
answered (refused n p) = Refused n p
answered (accepted es) = Accepted (length es) (length (real_table es))

-- document 01's number, place and counts of each answer
abbrev pub numbers_of : Answer → Numbers
numbers_of (Refused n p) = record { reason = n; place = p; primitives = 0; reals = 0 }
numbers_of (Accepted n k) = record { reason = 0; place = 0; primitives = n; reals = k }

-- what a text means in a mode, at the sizes of two lent tables
abbrev pub read_into : Mode → Bytes → List ℕ → List Float → Reading
read_into mode text records reals = read (settings_for mode (length records) (length reals)) text

-- demands 1 and 2 of one call that takes no pair table: the mode, the text, the tables as they were lent, the answer, and the tables at
-- exit
pub record Reads (mode : Mode) (text : Bytes) (records : List ℕ) (reals : List Float) (r : Answer) (records' : List ℕ) (reals' : List Float) : Type 0 where
  pub says : r ≡ answered (read_into mode text records reals)
  pub numbers : numbers_of r ≡ answer (read_into mode text records reals)
  pub table : records' ≡ record_image text (length records) (read_into mode text records reals)
  pub doubles : reals' ≡ real_image (length reals) (read_into mode text records reals)
