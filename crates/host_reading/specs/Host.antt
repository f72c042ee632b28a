-- What a host program is told of a reading: a number for the kind of answer, the answer's values in a small array, and the tables.
use Rattle.std.specs.Prelude.{cond, List, [], ◌∷◌, ◌≡◌, ℕ, eqb, Float, length}
use Rattle.index.specs.Report.{index_image, report}
use Rattle.laws.specs.Bytes.{Bytes}
use Rattle.reader.specs.Indexed.{read_indexed}
use Rattle.reader.specs.Paired.{read_with_pairs}
use Rattle.scene.specs.Record as scene
use Rattle.scene.specs.Record.{record_image, real_image}
use Rattle.scene.specs.declared.Mode.{Mode}
use Rattle.scene.specs.declared.Mode.TheVariants.{New, Archive}
use Rattle.sides.specs.Sides.{pair_image}

-- ---- the mode: 1 is the archive reading, and any other number the new one

unfoldable pub mode_of : ℕ → Mode
mode_of n = cond (eqb n 1) Archive New

-- ---- the reader: its reason, or 0; place, primitives, reals; and the three tables

pub record HostReads (mode : ℕ) (text : Bytes) (records : List ℕ) (reals : List Float) (pairs : List ℕ) (r : ℕ) (out : List ℕ) (records' : List ℕ) (reals' : List Float) (pairs' : List ℕ) : Type 0 where
  pub says : r ≡ (scene.answer (read_with_pairs (mode_of mode) text records reals pairs)).reason
  pub numbers : let a = scene.answer (read_with_pairs (mode_of mode) text records reals pairs) in out ≡ a.place ∷ a.primitives ∷ a.reals ∷ []
  pub table : records' ≡ record_image text (length records) (read_with_pairs (mode_of mode) text records reals pairs)
  pub doubles : reals' ≡ real_image (length reals) (read_with_pairs (mode_of mode) text records reals pairs)
  pub sides : pairs' ≡ pair_image (length pairs) (read_with_pairs (mode_of mode) text records reals pairs)

-- ---- the reader by a lent index: the same, the entries looked at, and the index

pub record HostReadsIndexed (mode : ℕ) (text : Bytes) (records : List ℕ) (reals : List Float) (pairs index : List ℕ) (r : ℕ) (out : List ℕ) (records' : List ℕ) (reals' : List Float) (pairs' index' : List ℕ) : Type 0 where
  pub says : r ≡ (scene.answer (read_indexed (mode_of mode) text records reals pairs index)).reason
  pub numbers : let a = scene.answer (read_indexed (mode_of mode) text records reals pairs index) in out ≡ a.place ∷ a.primitives ∷ a.reals ∷ report (read_indexed (mode_of mode) text records reals pairs index) ∷ []
  pub table : records' ≡ record_image text (length records) (read_indexed (mode_of mode) text records reals pairs index)
  pub doubles : reals' ≡ real_image (length reals) (read_indexed (mode_of mode) text records reals pairs index)
  pub sides : pairs' ≡ pair_image (length pairs) (read_indexed (mode_of mode) text records reals pairs index)
  pub entries : index' ≡ index_image (length index) (read_indexed (mode_of mode) text records reals pairs index)
