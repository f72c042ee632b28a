-- Reading with a lent index: the same answers and the same tables, the index at exit, and the report of entries looked at.
use Rattle.std.specs.Prelude.{cond, List, ◌++◌, ◌≡◌, ℕ, ◌≤◌, leb, Float, length}
use Rattle.index.specs.Report.{index_image, report}
use Rattle.laws.specs.Bytes.{Bytes}
use Rattle.mixed_driver.specs.Paired.{short_reason}
use Rattle.reader.specs.Answer.{Answer, Accepted, Refused, answer_of, answered, numbers_of}
use Rattle.reader.specs.Archive.{SameCall}
use Rattle.reader.specs.Exchange.{SameScene}
use Rattle.reader.specs.Paired.{ReadsPaired, read_with_pairs}
use Rattle.reader.specs.declared.Indexed.{Indexed as CodeIndexed}
use Rattle.scene.specs.Exchange.{exchange_shift}
use Rattle.scene.specs.Reading.{Entry, Reading, refused}
use Rattle.scene.specs.Record.{answer, real_image, record_image, settings_for}
use Rattle.scene.specs.declared.Mode.{Mode}
use Rattle.sides.specs.Exchange.{MixedExchange}
use Rattle.sides.specs.Sides.{pair_image}

-- an answer, and how many entries of the index were looked at for it
pub record Indexed : Type 0 where
  pub answer : Answer
  pub looked : ℕ

-- what the code answers
abbrev pub indexed_of : CodeIndexed → Indexed
indexed_of f = record { answer = answer_of f.answer; looked = f.looked }

-- "24 where the lent index is under 2,048 entries, place 0, after 1 and before the rest", of a text of so many bytes
abbrev pub answered_short : (len : ℕ) → Answer
answered_short len = Refused (short_reason 24 len) 0

-- what a text means where an index is lent: with 2,048 entries or more, what it means without one
unfoldable pub read_indexed : Mode → Bytes → (records : List ℕ) → (reals : List Float) → (pairs index : List ℕ) → Reading
read_indexed mode text records reals pairs index = cond (leb 2048 (length index)) (read_with_pairs mode text records reals pairs) (refused (short_reason 24 (length text)) 0)

-- one call: the mode, the text, the tables and the index as they were lent, the answer with its report, and tables and index at exit
pub record ReadsIndexed (mode : Mode) (text : Bytes) (records : List ℕ) (reals : List Float) (pairs index : List ℕ) (r : Indexed) (records' : List ℕ) (reals' : List Float) (pairs' index' : List ℕ) : Type 0 where
  pub says : r.answer ≡ answered (read_indexed mode text records reals pairs index)
  pub numbers : numbers_of r.answer ≡ answer (read_indexed mode text records reals pairs index)
  pub looked : r.looked ≡ report (read_indexed mode text records reals pairs index)
  pub table : records' ≡ record_image text (length records) (read_indexed mode text records reals pairs index)
  pub doubles : reals' ≡ real_image (length reals) (read_indexed mode text records reals pairs index)
  pub sides : pairs' ≡ pair_image (length pairs) (read_indexed mode text records reals pairs index)
  pub entries : index' ≡ index_image (length index) (read_indexed mode text records reals pairs index)

-- With 2,048 entries or more, a call with an index promises what one without it does: so whatever is proved of `ReadsPaired` (both modes,
-- the exchange of blocks) holds of it
abbrev pub IndexedReads : Type 0
IndexedReads = (mode : Mode) (text : Bytes) (lent : List ℕ) (doubles : List Float) (sides index : List ℕ) (r : Indexed) (table : List ℕ) (reals : List Float) (pairs index' : List ℕ)
    → 2048 ≤ length index → ReadsIndexed mode text lent doubles sides index r table reals pairs index' → ReadsPaired mode text lent doubles sides r.answer table reals pairs

-- "Both engines answer alike": any call without an index and any call with one of 2,048 entries or more, on one text in one mode,
-- with tables of the same lengths
abbrev pub EnginesAlike : Type 0
EnginesAlike = (mode : Mode) (text : Bytes) (lent lent' : List ℕ) (doubles doubles' : List Float) (sides sides' index : List ℕ)
    → length lent' ≡ length lent → length doubles' ≡ length doubles → length sides' ≡ length sides → 2048 ≤ length index
    → (r : Answer) (table : List ℕ) (reals : List Float) (pairs : List ℕ) → ReadsPaired mode text lent doubles sides r table reals pairs
    → (r' : Indexed) (table' : List ℕ) (reals' : List Float) (pairs' index' : List ℕ) → ReadsIndexed mode text lent' doubles' sides' index r' table' reals' pairs' index'
    → SameCall r table reals pairs r'.answer table' reals' pairs'

-- demand 3 of two calls with an index each
abbrev pub IndexedExchange : Type 0
IndexedExchange = (mode : Mode) (p a b q : Bytes) (es : List Entry) (lent lent' : List ℕ) (doubles doubles' : List Float) (sides sides' index index' : List ℕ)
    → length lent' ≡ length lent → length doubles' ≡ length doubles → length sides' ≡ length sides → 2048 ≤ length index → 2048 ≤ length index'
    → MixedExchange (settings_for mode (length lent) (length doubles)) p a b q es
    → (n k : ℕ) (r : Indexed) → r.answer ≡ Accepted n k → (table : List ℕ) (reals : List Float) (pairs x : List ℕ) → ReadsIndexed mode (p ++ a ++ b ++ q) lent doubles sides index r table reals pairs x
    → (r' : Indexed) (table' : List ℕ) (reals' : List Float) (pairs' x' : List ℕ) → ReadsIndexed mode (p ++ b ++ a ++ q) lent' doubles' sides' index' r' table' reals' pairs' x'
    → SameScene (p ++ a ++ b ++ q) (p ++ b ++ a ++ q) (exchange_shift es p a b) n k table reals pairs r'.answer table' reals' pairs'
