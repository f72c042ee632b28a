-- The links in the lent table as it stands after a call, said by their properties.
use Rattle.std.specs.Prelude.{true, false, List, ◌⊎◌, ◌≡◌, ℕ, ◌<◌, Float}
use Rattle.std.proofs.Math.Option.{some}
use Rattle.laws.specs.Bytes.{Bytes, same}
use Rattle.reader.specs.Answer.{Accepted, Reads, read_into}
use Rattle.scene.specs.Links.{gives}
use Rattle.scene.specs.Properties.{LatestBelow, Named, NextAbove, numbered}
use Rattle.scene.specs.Reading.{Entry, accepted, statements}
use Rattle.scene.specs.Record.{record_in}
use Rattle.scene.specs.Statement.{Literal, Statement, alias, primitive, void}
use Rattle.scene.specs.declared.Mode.{Mode}

-- record k, of statement s among the statements d
pub record RowLinks (d : List Statement) (table : List ℕ) (k : ℕ) (s : Statement) : Type 0 where
  pub no_modifier : same s.modifier void ≡ true → (record_in table k).modifier ≡ 0
  pub modifier : same s.modifier void ≡ false → LatestBelow d k s.modifier (record_in table k).modifier
  pub no_target : (t : ℕ) (ss : List Bytes) (rs : List Literal) → s.body ≡ primitive t ss rs → (record_in table k).target ≡ 0
  pub target : (x : Bytes) → s.body ≡ alias x → LatestBelow d k x (record_in table k).target
  pub no_next : gives s ≡ false → (record_in table k).next ≡ 0
  pub next : gives s ≡ true → (((record_in table k).next ≡ 0) × ((m : ℕ) → k < m → Named d m s.name → ⊥)) ⊎ NextAbove d k s.name (record_in table k).next

-- the text is read as some entries, and each record's links are right among their statements
pub record TableLinks (mode : Mode) (text : Bytes) (lent : List ℕ) (doubles : List Float) (table : List ℕ) : Type 0 where
  pub entries : List Entry
  pub reads : read_into mode text lent doubles ≡ accepted entries
  pub rows : (k : ℕ) (s : Statement) → numbered (statements entries) k ≡ some s → RowLinks (statements entries) table k s

-- for every call that accepts, in either mode
abbrev pub ReaderLinks : Type 0
ReaderLinks = (mode : Mode) (text : Bytes) (lent : List ℕ) (doubles : List Float) (n k : ℕ) (table : List ℕ) (reals : List Float)
    → Reads mode text lent doubles (Accepted n k) table reals → TableLinks mode text lent doubles table
