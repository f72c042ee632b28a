-- Both modes of the running reader on one text.
use Rattle.std.specs.Prelude.{List, ◌≡◌, ℕ, Float, length}
use Rattle.laws.specs.Bytes.{Bytes}
use Rattle.reader.specs.Paired.{ReadsPaired}
use Rattle.reader.specs.Answer.{Accepted, Answer}
use Rattle.scene.specs.declared.Mode.TheVariants.{New, Archive}

-- the answer and all tables of a call
pub record SameCall (r : Answer) (table : List ℕ) (reals : List Float) (pairs : List ℕ) (r' : Answer) (table' : List ℕ) (reals' : List Float) (pairs' : List ℕ) : Type 0 where
  pub answer : r' ≡ r
  pub records : table' ≡ table
  pub doubles : reals' ≡ reals
  pub sides : pairs' ≡ pairs

-- "Every text accepted by the new reading has the same table in the archive one": any two calls on tables of the same lengths
abbrev pub ReaderArchive : Type 0
ReaderArchive = (text : Bytes) (lent lent' : List ℕ) (doubles doubles' : List Float) (sides sides' : List ℕ)
    → length lent' ≡ length lent → length doubles' ≡ length doubles → length sides' ≡ length sides
    → (n k : ℕ) (table : List ℕ) (reals : List Float) (pairs : List ℕ) → ReadsPaired New text lent doubles sides (Accepted n k) table reals pairs
    → (r : Answer) (table' : List ℕ) (reals' : List Float) (pairs' : List ℕ) → ReadsPaired Archive text lent' doubles' sides' r table' reals' pairs'
    → SameCall (Accepted n k) table reals pairs r table' reals' pairs'
