-- The line in each record of the lent table as it stands after a call.
use Rattle.std.specs.Prelude.{List, ◌≡◌, ℕ, ◌≤◌, ◌<◌, Float}
use Rattle.laws.specs.Bytes.{Bytes}
use Rattle.reader.specs.Answer.{Accepted, Reads}
use Rattle.scene.specs.Record.{line_at, line_in, record_in}
use Rattle.scene.specs.declared.Mode.{Mode}

-- "the line on which the name stands, from 1", for every call that accepts
abbrev pub ReaderLines : Type 0
ReaderLines = (mode : Mode) (text : Bytes) (lent : List ℕ) (doubles : List Float) (n k : ℕ) (table : List ℕ) (reals : List Float)
    → Reads mode text lent doubles (Accepted n k) table reals
    → (i : ℕ) → 0 < i → i ≤ n → line_in table i ≡ line_at text (record_in table i).name
