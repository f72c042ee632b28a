-- What the moving call answers, and what it leaves in the lent output.
use Rattle.std.specs.Prelude.{Bool, cond, not, List, ◌≡◌, ℕ, min, eqb, leb, Float, length}
use Rattle.laws.specs.Bytes.{Bytes}
use Rattle.moving.specs.Moved.{moved}
use Rattle.moving.specs.declared.Direction.{Direction}
use Rattle.reader.specs.Answer.{read_into}
use Rattle.scene.specs.Links.{reals_used}
use Rattle.scene.specs.Reading.{statements}
use Rattle.scene.specs.Statement.{Statement}
use Rattle.scene.specs.declared.Mode.{Mode}
use Rattle.tidying.specs.Tidy.{tidy}
use Rattle.writer.specs.Answer as written
use Rattle.writer.specs.Answer.{Answer, Outcome, answered, checked}

-- "what a reading of the moved scene at the same sizes would give, 1 or 13, at place 0; then 23": whether the text is too long for a
-- reading, the reals it has and the room for them, its length and the output's
unfoldable pub moved_refusal : (long : Bool) (reals room len output : ℕ) → ℕ
moved_refusal long reals room len output = cond long 1 (cond (leb reals room) (cond (leb len output) 0 23) 13)

-- a text, or the refusal of a reason other than 0
abbrev pub outcome_for : (reason : ℕ) → Bytes → Outcome
outcome_for n t = cond (eqb n 0) (written.written t) (written.refused n 0)

-- the moved text of statements, at so much room for reals and in an output of so many bytes
abbrev pub moved_outcome : (limit output : ℕ) → List Statement → Outcome
moved_outcome limit output D = outcome_for (moved_refusal (not (leb (length (tidy D)) 65536)) (reals_used D) limit (length (tidy D)) output) (tidy D)

-- what a call comes to, in a mode and a direction, of a text, two lent tables and an output of so many bytes. "Refusals for moving, after
-- the writer's 22"
abbrev pub moved_by : Mode → Direction → Bytes → (records : List ℕ) → (reals : List Float) → (output : ℕ) → Outcome
moved_by mode m text records reals output = checked (λ es. moved_outcome (min 4096 (length reals)) output (moved m (statements es))) text records reals (read_into mode text records reals)

-- one call: the answer, and the output at exit
pub record Moves (mode : Mode) (m : Direction) (text : Bytes) (records : List ℕ) (reals : List Float) (out : Bytes) (r : Answer) (out' : Bytes) : Type 0 where
  pub says : r ≡ answered (moved_by mode m text records reals (length out))
  pub output : out' ≡ written.output (length out) (moved_by mode m text records reals (length out))
