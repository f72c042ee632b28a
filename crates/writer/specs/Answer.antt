-- What the writing call answers, and what it leaves in the lent output.
use Rattle.std.specs.Prelude.{Result, Ok, Err, cond, List, [], ◌∷◌, ◌≡◌, ℕ, leb, Float, length}
use Rattle.fresh.specs.Fresh.{tables_match}
use Rattle.laws.specs.Bytes.{Bytes}
use Rattle.reader.specs.Answer.{read_into}
use Rattle.scene.specs.Reason.{reason_number}
use Rattle.scene.specs.Reading as reading
use Rattle.scene.specs.Reading.{Entry, Reading, accepted, statements}
use Rattle.scene.specs.Record.{filled}
use Rattle.scene.specs.declared.Mode.{Mode}
use Rattle.scene.specs.declared.Refusal.{Refusal}
use Rattle.tidying.specs.Tidy.{tidy}

-- the tidy text's length, or a refusal's reason and place
pub data Answer : Type 0 where
  Written : (len : ℕ) → Answer
  Refused : (reason place : ℕ) → Answer

-- what the code answers
abbrev pub answer_of : Result ℕ Refusal → Answer
answer_of (Ok n) = Written n
answer_of (Err r) = Refused (reason_number r.reason) r.place

-- the tidy text, or the reason for refusing and its place
pub data Outcome : Type 0 where
  refused : (reason place : ℕ) → Outcome
  written : Bytes → Outcome

-- "23 output too small for the exact length"
abbrev pub fitted : (room : ℕ) → Bytes → Outcome
fitted room text = cond (leb (length text) room) (written text) (refused 23 0)

-- "Refusals, in order: the reader's; 22 tables differ from the text; 23 [..]; 22 and 23 at place 0": behind the first two, what is made
-- of the entries
abbrev pub checked : (made : List Entry → Outcome) → Bytes → (records : List ℕ) → (reals : List Float) → Reading → Outcome
checked made text records reals (reading.refused n p) = refused n p
checked made text records reals (accepted es) = cond (tables_match text records reals (accepted es)) (made es) (refused 22 0)

-- what a call comes to, in a mode, of a text, two lent tables and an output of so many bytes
abbrev pub tidied : Mode → Bytes → (records : List ℕ) → (reals : List Float) → (room : ℕ) → Outcome
tidied mode text records reals room = checked (λ es. fitted room (tidy (statements es))) text records reals (read_into mode text records reals)

-- the answer: the text's length, or reason and place
abbrev pub answered : Outcome → Answer
answered (refused n p) = Refused n p
answered (written t) = Written (length t)

-- document 01's number of each answer, and its values: the place of a refusal, the length of a text
abbrev pub reason_of : Answer → ℕ
reason_of (Refused n p) = n
reason_of (Written k) = 0

abbrev pub values_of : Answer → List ℕ
values_of (Refused n p) = p ∷ 0 ∷ []
values_of (Written k) = 0 ∷ k ∷ []

-- "refusals zero the whole output, success its unused rest"
abbrev pub bytes_of : Outcome → Bytes
bytes_of (refused n p) = []
bytes_of (written t) = t

abbrev pub output : ℕ → Outcome → Bytes
output n o = filled 0 n (bytes_of o)

-- one call: the answer, and the output at exit
pub record Writes (mode : Mode) (text : Bytes) (records : List ℕ) (reals : List Float) (out : Bytes) (r : Answer) (out' : Bytes) : Type 0 where
  pub says : r ≡ answered (tidied mode text records reals (length out))
  pub output : out' ≡ output (length out) (tidied mode text records reals (length out))
