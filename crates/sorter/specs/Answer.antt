-- What the sorting call answers, and what it leaves in the lent output.
use Rattle.std.specs.Prelude.{List, ◌≡◌, ℕ, Float, length}
use Rattle.laws.specs.Bytes.{Bytes}
use Rattle.reader.specs.Answer.{read_into}
use Rattle.rearrangement.specs.Blocks.{Verdict, can, cannot, verdict}
use Rattle.scene.specs.Reading.{Entry}
use Rattle.scene.specs.declared.Mode.{Mode}
use Rattle.sorting.specs.Sorted.{sorted_text}
use Rattle.writer.specs.Answer as written
use Rattle.writer.specs.Answer.{Answer, Outcome, answered, checked, fitted}

-- a text that can be cut is sorted; 33 and 34 come before 23
abbrev pub if_cut : Verdict → Outcome → Outcome
if_cut (cannot n p) o = written.refused n p
if_cut can o = o

abbrev pub sorted_outcome : Bytes → (room : ℕ) → List Entry → Outcome
sorted_outcome text room es = if_cut (verdict text es) (fitted room (sorted_text text es))

-- what a call comes to, in a mode, of a text, two lent tables and an output of so many bytes: behind the writer's 22
abbrev pub sorted_by : Mode → Bytes → (records : List ℕ) → (reals : List Float) → (room : ℕ) → Outcome
sorted_by mode text records reals room = checked (sorted_outcome text room) text records reals (read_into mode text records reals)

-- one call: the answer, and the output at exit
pub record Sorts (mode : Mode) (text : Bytes) (records : List ℕ) (reals : List Float) (out : Bytes) (r : Answer) (out' : Bytes) : Type 0 where
  pub says : r ≡ answered (sorted_by mode text records reals (length out))
  pub output : out' ≡ written.output (length out) (sorted_by mode text records reals (length out))
