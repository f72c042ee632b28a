-- Reading with a lent pair table: the same answers and the same tables, and the pairs.
use Rattle.std.specs.Prelude.{true, List, ◌≡◌, ℕ, Float, length}
use Rattle.laws.specs.Bytes.{Bytes}
use Rattle.mixed_driver.specs.Paired.{enough_pairs, read_paired}
use Rattle.reader.specs.Answer.{Accepted, Answer, Reads, answered, numbers_of}
use Rattle.scene.specs.Reading.{Reading}
use Rattle.scene.specs.Record.{answer, real_image, record_image}
use Rattle.scene.specs.declared.Mode.{Mode}
use Rattle.sides.specs.Sides.{pair_image}

-- what a text means in a mode, at the sizes of three lent tables
abbrev pub read_with_pairs : Mode → Bytes → (records : List ℕ) → (reals : List Float) → (pairs : List ℕ) → Reading
read_with_pairs mode text records reals pairs = read_paired mode text (length records) (length reals) (length pairs)

-- demands 1 and 2 of one call: the mode, the text, the tables as they were lent, the answer, and the tables at exit
pub record ReadsPaired (mode : Mode) (text : Bytes) (records : List ℕ) (reals : List Float) (pairs : List ℕ) (r : Answer) (records' : List ℕ) (reals' : List Float) (pairs' : List ℕ) : Type 0 where
  pub says : r ≡ answered (read_with_pairs mode text records reals pairs)
  pub numbers : numbers_of r ≡ answer (read_with_pairs mode text records reals pairs)
  pub table : records' ≡ record_image text (length records) (read_with_pairs mode text records reals pairs)
  pub doubles : reals' ≡ real_image (length reals) (read_with_pairs mode text records reals pairs)
  pub sides : pairs' ≡ pair_image (length pairs) (read_with_pairs mode text records reals pairs)

-- With two numbers per record of room, a call with a pair table promises what one without it does: so whatever is proved of `Reads`
-- (links, lines) holds of it
abbrev pub PairedReads : Type 0
PairedReads = (mode : Mode) (text : Bytes) (lent : List ℕ) (doubles : List Float) (pairs : List ℕ) → enough_pairs (length lent) (length pairs) ≡ true
    → (r : Answer) (table : List ℕ) (reals : List Float) (pairs' : List ℕ) → ReadsPaired mode text lent doubles pairs r table reals pairs' → Reads mode text lent doubles r table reals

-- and a call that accepts had as many
abbrev pub AcceptedEnough : Type 0
AcceptedEnough = (mode : Mode) (text : Bytes) (lent : List ℕ) (doubles : List Float) (pairs : List ℕ)
    → (n k : ℕ) (table : List ℕ) (reals : List Float) (pairs' : List ℕ) → ReadsPaired mode text lent doubles pairs (Accepted n k) table reals pairs'
    → enough_pairs (length lent) (length pairs) ≡ true
