-- What a writing call has left before it zeroes the rest of the output.
use Rattle.std.specs.Prelude.{Result, Ok, Err, cond, ◌≡◌, ℕ, length, take}
use Rattle.laws.specs.Bytes.{Bytes}
use Rattle.lines.specs.declared.Cursor.{Cursor}
use Rattle.scene.specs.declared.Refusal.{Refusal}
use Rattle.writer.specs.Answer.{Answer, Outcome, Refused, Written, answered, bytes_of}

-- how much of the output an answer uses
abbrev pub used : Result ℕ Refusal → ℕ
used (Ok n) = n
used (Err r) = 0

-- the answer for a text put up to here
abbrev pub length_put : Cursor → Answer
length_put c = cond c.full (Refused 23 0) (Written c.at)

-- the answer, and the text from the output's front on
pub record Leaves (o : Outcome) (out : Bytes) (r : Answer) (out' : Bytes) : Type 0 where
  pub says : r ≡ answered o
  pub size : length out' ≡ length out
  pub text : take (length (bytes_of o)) out' ≡ bytes_of o
