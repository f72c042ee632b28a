-- Lent tables beside a fresh reading of the text.
use Rattle.std.specs.Prelude.{Result, Ok, Err, Bool, cond, ◌&&◌, List, ℕ, Float, length}
use Rattle.bits.specs.Bits.{same_reals}
use Rattle.laws.specs.Bytes.{Bytes, same}
use Rattle.scene.specs.Reason.{reason_number}
use Rattle.scene.specs.Reading.{Reading, refused, accepted}
use Rattle.scene.specs.Record.{record_image, real_image}
use Rattle.scene.specs.declared.Refusal.{Refusal}

-- the tables are those of a fresh reading of so many primitives; or why not
pub data Fresh : Type 0 where
  Same : (primitives : ℕ) → Fresh
  Refused : (reason place : ℕ) → Fresh

-- what the code answers
abbrev pub answer_of : Result ℕ Refusal → Fresh
answer_of (Ok n) = Same n
answer_of (Err r) = Refused (reason_number r.reason) r.place

-- "The tables, never written, are first compared with a fresh reading at those sizes, reals by bits": whole, with the entries
-- beyond the used ones
unfoldable pub tables_match : Bytes → (records : List ℕ) → (reals : List Float) → Reading → Bool
tables_match text records reals r = same records (record_image text (length records) r) && same_reals reals (real_image (length reals) r)

-- the count of primitives where the tables are what the reading leaves, or the refusal: the reader's, or 22
abbrev pub fresh_of : Bytes → (records : List ℕ) → (reals : List Float) → Reading → Fresh
fresh_of text records reals (refused n p) = Refused n p
fresh_of text records reals (accepted es) = cond (tables_match text records reals (accepted es)) (Same (length es)) (Refused 22 0)
