-- What the joining calls answer, and what they leave in all that is lent.
use Rattle.std.specs.Prelude.{Result, Ok, Err, List, [], ◌∷◌, ◌≡◌, ℕ, Float, length}
use Rattle.join_answer.specs.declared.Joined.{Joined as Counts}
use Rattle.joining.specs.Outcome.{Outcome, joined, refused}
use Rattle.joining.specs.declared.Scene.{Scene}
use Rattle.joining.specs.declared.Scene.TheVariants as scene
use Rattle.joining.specs.declared.SceneRefusal.{SceneRefusal}
use Rattle.laws.specs.Bytes.{Bytes}
use Rattle.scene.specs.Reason.{reason_number}
use Rattle.scene.specs.Reading as reading
use Rattle.scene.specs.Reading.{Reading, accepted}
use Rattle.scene.specs.Record.{filled, real_image, real_table, record_image}

-- the length of the accepted text and its counts of primitives and reals; or which text is refused, why and where
pub data Answer : Type 0 where
  Joined : (len primitives reals : ℕ) → Answer
  Refused : (scene : Scene) (reason place : ℕ) → Answer

-- what the code answers
abbrev pub answer_of : Result Counts SceneRefusal → Answer
answer_of (Ok c) = Joined c.len c.primitives c.reals
answer_of (Err w) = Refused w.scene (reason_number w.refusal.reason) w.refusal.place

-- the answer: the text's length and the counts of its primitives and reals, or text, reason and place
abbrev pub answered : Outcome → Answer
answered (refused t n p) = Refused t n p
answered (joined text es) = Joined (length text) (length es) (length (real_table es))

-- document 01's number of each answer, and its values: the text a refusal names, its place, the length, and the counts
abbrev pub reason_of : Answer → ℕ
reason_of (Refused t n p) = n
reason_of (Joined k m d) = 0

abbrev pub scene_number : Scene → ℕ
scene_number scene.None = 0
scene_number scene.Base = 1
scene_number scene.Left = 2
scene_number scene.Right = 3
scene_number scene.Joined = 4

abbrev pub values_of : Answer → List ℕ
values_of (Refused t n p) = scene_number t ∷ p ∷ 0 ∷ 0 ∷ 0 ∷ []
values_of (Joined k m d) = 0 ∷ 0 ∷ k ∷ m ∷ d ∷ []

-- "any refusal zeroes the output and all lent tables"; else the output has the accepted text, and the tables are those of its reading
abbrev pub text_of : Outcome → Bytes
text_of (refused t n p) = []
text_of (joined text es) = text

abbrev pub reading_of : Outcome → Reading
reading_of (refused t n p) = reading.refused n p
reading_of (joined text es) = accepted es

-- one call: the answer, and at exit the tables and the output
pub record Joins (o : Outcome) (records : List ℕ) (reals : List Float) (out : Bytes) (r : Answer) (records' : List ℕ) (reals' : List Float) (out' : Bytes) : Type 0 where
  pub says : r ≡ answered o
  pub table : records' ≡ record_image (text_of o) (length records) (reading_of o)
  pub doubles : reals' ≡ real_image (length reals) (reading_of o)
  pub output : out' ≡ filled 0 (length out) (text_of o)
