-- "Both texts are read afresh. Refusals: the reader's own, left scene first"; one "zeroes the tables of both".
use Rattle.std.specs.Prelude.{List, [], ◌∷◌, ◌≡◌, ℕ, Float, length, Result, Ok, Err}
use Rattle.laws.specs.Bytes.{Bytes}
use Rattle.reader.specs.Answer.{read_into}
use Rattle.scene.specs.Reason.{reason_number}
use Rattle.scene.specs.Reading.{Reading, refused, accepted}
use Rattle.scene.specs.Record.{record_image, real_image, real_table}
use Rattle.scene.specs.declared.Mode.{Mode}
use Rattle.pair.specs.declared.BothCounts.{BothCounts}
use Rattle.pair.specs.declared.Side.{Side}
use Rattle.pair.specs.declared.Side.TheVariants as on
use Rattle.pair.specs.declared.SideRefusal.{SideRefusal}

-- the counts of primitives and reals, left then right; or the scene refused, with the number of the reader's reason and the place
pub data Both : Type 0 where
  Read : (left_primitives left_reals right_primitives right_reals : ℕ) → Both
  Refused : Side → (reason place : ℕ) → Both

-- what the code answers
abbrev pub both_of : Result BothCounts SideRefusal → Both
both_of (Ok c) = Read c.left.primitives c.left.reals c.right.primitives c.right.reals
both_of (Err r) = Refused r.side (reason_number r.refusal.reason) r.refusal.place

-- document 01's number of each answer: "the reader's own", 0 where both are read
abbrev pub reason_of : Both → ℕ
reason_of (Read m j n k) = 0
reason_of (Refused s r p) = r

abbrev pub side_number : Side → ℕ
side_number on.Left = 0
side_number on.Right = 1

-- and its values: which scene is refused, and where; primitives and reals, left then right
abbrev pub values_of : Both → List ℕ
values_of (Read m j n k) = 0 ∷ 0 ∷ m ∷ j ∷ n ∷ k ∷ []
values_of (Refused s r p) = side_number s ∷ p ∷ 0 ∷ 0 ∷ 0 ∷ 0 ∷ []

-- the answer that two readings come to
abbrev pub both_answer : (left right : Reading) → Both
both_answer (refused n p) b = Refused on.Left n p
both_answer (accepted es) (refused n p) = Refused on.Right n p
both_answer (accepted es) (accepted fs) = Read (length es) (length (real_table es)) (length fs) (length (real_table fs))

-- a reading, which is refused where the other is
abbrev pub beside : (own other : Reading) → Reading
beside (refused n p) b = refused n p
beside (accepted es) (refused n p) = refused n p
beside (accepted es) (accepted fs) = accepted es

-- the mode, "the same for all its texts", the texts, the tables as they were lent, the answer, and the tables at exit
pub record ReadsBoth (mode : Mode) (left : Bytes) (lr : List ℕ) (lx : List Float) (right : Bytes) (rr : List ℕ) (rx : List Float) (r : Both) (lr' : List ℕ) (lx' : List Float) (rr' : List ℕ) (rx' : List Float) : Type 0 where
  pub says : r ≡ both_answer (read_into mode left lr lx) (read_into mode right rr rx)
  pub left_table : lr' ≡ record_image left (length lr) (beside (read_into mode left lr lx) (read_into mode right rr rx))
  pub left_doubles : lx' ≡ real_image (length lx) (beside (read_into mode left lr lx) (read_into mode right rr rx))
  pub right_table : rr' ≡ record_image right (length rr) (beside (read_into mode right rr rx) (read_into mode left lr lx))
  pub right_doubles : rx' ≡ real_image (length rx) (beside (read_into mode right rr rx) (read_into mode left lr lx))
