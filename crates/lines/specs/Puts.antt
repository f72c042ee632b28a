-- Bytes put into the output one after the other, as many as fit, and whether all did.
use Rattle.std.specs.Prelude.{◌||◌, ◌≡◌, ◌-◌, ltb, length}
use Rattle.buffer.specs.Put.{put, behind}
use Rattle.laws.specs.Bytes.{Bytes}
use Rattle.lines.specs.declared.Cursor.{Cursor}

-- the cursor behind new bytes
abbrev pub moved : (out : Bytes) → Cursor → (new : Bytes) → Cursor
moved out c new = record { at = behind out c.at new; full = c.full || ltb (length out - c.at) (length new) }

-- the output and the cursor before some bytes are put in, and after
pub record Puts (out : Bytes) (c : Cursor) (new : Bytes) (r : Cursor) (out' : Bytes) : Type 0 where
  pub text : out' ≡ put out c.at new
  pub cursor : r ≡ moved out c new
