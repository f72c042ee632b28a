-- Reading with a lent pair table: how it ends, and what all tables hold then.
use Rattle.std.specs.Prelude.{Bool, cond, List, ◌≡◌, ℕ, ◌*◌, ◌/◌, min, leb, Float, length}
use Rattle.driver.specs.Ending.{End, ending, index_after}
use Rattle.laws.specs.Bytes.{Bytes}
use Rattle.scene.specs.Reading.{Reading, refused}
use Rattle.scene.specs.Record.{real_image, record_image, settings_for, width}
use Rattle.scene.specs.declared.Mode.{Mode}
use Rattle.sides.specs.Read.{read}
use Rattle.sides.specs.Sides.{pair_image}

-- "two numbers per record of room": in so many lent numbers of records and of pairs
abbrev pub enough_pairs : (records pairs : ℕ) → Bool
enough_pairs n m = leb (min 1024 (n / width) * 2) m

-- "after 1 and before the rest": the number of a refusal for a short table, of a text of so many bytes
abbrev pub short_reason : (reason len : ℕ) → ℕ
short_reason reason len = cond (leb len 65536) reason 1

-- what a text means in a mode, at the sizes of three lent tables. "27 lent pair table under two numbers per record of room, place 0,
-- tested after 1 and 24, before the rest"
unfoldable pub read_paired : Mode → Bytes → (records reals pairs : ℕ) → Reading
read_paired mode text n k m = cond (enough_pairs n m) (read (settings_for mode n k) text) (refused (short_reason 27 (length text)) 0)

-- one call: the tables as they were lent, how it ends, and the tables at exit
pub record EndsPaired (mode : Mode) (text : Bytes) (records : List ℕ) (reals : List Float) (pairs index : List ℕ) (r : End) (records' : List ℕ) (reals' : List Float) (pairs' index' : List ℕ) : Type 0 where
  pub says : r ≡ ending (length index) (read_paired mode text (length records) (length reals) (length pairs))
  pub table : records' ≡ record_image text (length records) (read_paired mode text (length records) (length reals) (length pairs))
  pub doubles : reals' ≡ real_image (length reals) (read_paired mode text (length records) (length reals) (length pairs))
  pub sides : pairs' ≡ pair_image (length pairs) (read_paired mode text (length records) (length reals) (length pairs))
  pub entries : index' ≡ index_after (length index) (read_paired mode text (length records) (length reals) (length pairs))
