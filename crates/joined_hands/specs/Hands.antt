-- An order of both hands' records beside texts.
use Rattle.std.specs.Prelude.{Bool, false, List, ◌++◌, ◌≡◌, ℕ, ◌/◌, ◌≤◌, Float, length}
use Rattle.join_meaning.specs.Kept.{in_turn}
use Rattle.join_meaning.specs.Written.{Numbers}
use Rattle.joining.specs.Pick.{holds}
use Rattle.laws.specs.Bytes.{Bytes}
use Rattle.lines.specs.Puts.{Puts}
use Rattle.lines.specs.declared.Cursor.{Cursor}
use Rattle.matching.specs.Matching.{match_of}
use Rattle.scene.specs.Reading.{Entry, accepted, statements}
use Rattle.scene.specs.Record.{real_image, record_image, settings_for, width}
use Rattle.scene.specs.declared.Mode.{Mode}
use Rattle.sides.specs.Read.{read}
use Rattle.tabled.specs.Tabled.{tabled}
use Rattle.tidying.specs.Tidy.{tidy}
use Rattle.typed_matches.specs.Held.{all_held}

-- the tidy text of the statements in that order, where both hands' texts are accepted
pub record PutsHands (mode : Mode) (numbers reals : ℕ) (left right : Bytes) (order : List ℕ) (out : Bytes) (r : Cursor) (out' : Bytes) : Type 0 where
  pub size : length out' ≡ length out
  pub puts : (ls rs : List Entry) → read (settings_for mode numbers reals) left ≡ accepted ls → read (settings_for mode numbers reals) right ≡ accepted rs → Numbers (length (statements ls ++ statements rs)) order
      → Puts out (record { at = 0; full = false }) (tidy (in_turn (statements ls ++ statements rs) order)) r out'

-- at most 1,024 records of each hand
pub record RoomFor (L R : List ℕ) : Type 0 where
  pub lefts : length L / width ≤ 1024
  pub rights : length R / width ≤ 1024

unfoldable pub holds_rows : (left : Bytes) (L : List ℕ) (y : List Float) (right : Bytes) (R : List ℕ) (z : List Float) (typed : Bytes) (T : List ℕ) (w : List Float) (order : List ℕ) → Bool
holds_rows left L y right R z typed T w order =
    all_held (tabled (match_of right R z typed T w) (length R / width)) (tabled (match_of left L y typed T w) (length L / width)) order typed T

-- what the typed text holds, where all three texts are accepted and its tables are those of its reading
pub record HoldsHands (mode : Mode) (left right typed : Bytes) (T : List ℕ) (w : List Float) (count : ℕ) (order : List ℕ) (r : Bool) : Type 0 where
  pub says : (ls rs ts : List Entry) → let s = settings_for mode (length T) (length w) in read s left ≡ accepted ls → read s right ≡ accepted rs → read s typed ≡ accepted ts
      → T ≡ record_image typed (length T) (accepted ts) → w ≡ real_image (length w) (accepted ts) → count ≡ length ts → Numbers (length (statements ls ++ statements rs)) order
      → r ≡ holds (in_turn (statements ls ++ statements rs) order) (statements ts)
