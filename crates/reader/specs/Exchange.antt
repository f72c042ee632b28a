-- Demand 3 of the running reader: its answers and tables on a text and on the exchanged one.
use Rattle.std.specs.Prelude.{List, ◌++◌, ◌≡◌, ℕ, ◌≤◌, ◌<◌, Float, length, take}
use Rattle.graph.specs.Answers.{shows}
use Rattle.graph.specs.Graph.{graph_of, side_in}
use Rattle.laws.specs.Bytes.{Bytes}
use Rattle.reader.specs.Paired.{ReadsPaired}
use Rattle.reader.specs.Answer.{Accepted, Answer}
use Rattle.scene.specs.Exchange.{exchange_shift}
use Rattle.scene.specs.Reading.{Entry}
use Rattle.scene.specs.Record.{record_in, settings_for}
use Rattle.scene.specs.Told.{tells, renumbered}
use Rattle.scene.specs.declared.Mode.{Mode}
use Rattle.sides.specs.Exchange.{MixedExchange}

-- The second call accepts with the counts of the first, and what its text and tables tell of record f i is what the first's
-- tell of record i, with modifier link, alias target and next renumbered
pub record SameButNumbers (old new : Bytes) (f : ℕ → ℕ) (n k : ℕ) (table : List ℕ) (reals : List Float) (r : Answer) (table' : List ℕ) (reals' : List Float) : Type 0 where
  pub accepts : r ≡ Accepted n k
  pub rows : (i : ℕ) → 0 < i → i ≤ n → tells new (take k reals') (record_in table' (f i)) ≡ renumbered f (tells old (take k reals) (record_in table i))

-- the sides of f i are those of i renumbered, and f i may show f m exactly where i might show m: the lists agree as sets
pub record SamePairs (f : ℕ → ℕ) (n : ℕ) (table pairs table' pairs' : List ℕ) : Type 0 where
  pub foreground : (i : ℕ) → 0 < i → i ≤ n → side_in pairs' (f i) 0 ≡ f (side_in pairs i 0)
  pub background : (i : ℕ) → 0 < i → i ≤ n → side_in pairs' (f i) 1 ≡ f (side_in pairs i 1)
  pub shown : (i m : ℕ) → 0 < i → i ≤ n → 0 < m → m ≤ n → shows (graph_of table' pairs') n (f i) (f m) ≡ shows (graph_of table pairs) n i m

pub record SameScene (old new : Bytes) (f : ℕ → ℕ) (n k : ℕ) (table : List ℕ) (reals : List Float) (pairs : List ℕ) (r : Answer) (table' : List ℕ) (reals' : List Float) (pairs' : List ℕ) : Type 0 where
  pub tables : SameButNumbers old new f n k table reals r table' reals'
  pub sides : SamePairs f n table pairs table' pairs'

-- for either mode, every accepted text, two neighbouring independent blocks of it, and any two calls on tables of the same lengths
abbrev pub ReaderExchange : Type 0
ReaderExchange = (mode : Mode) (p a b q : Bytes) (es : List Entry) (lent lent' : List ℕ) (doubles doubles' : List Float) (sides sides' : List ℕ)
    → length lent' ≡ length lent → length doubles' ≡ length doubles → length sides' ≡ length sides
    → MixedExchange (settings_for mode (length lent) (length doubles)) p a b q es
    → (n k : ℕ) (table : List ℕ) (reals : List Float) (pairs : List ℕ) → ReadsPaired mode (p ++ a ++ b ++ q) lent doubles sides (Accepted n k) table reals pairs
    → (r : Answer) (table' : List ℕ) (reals' : List Float) (pairs' : List ℕ) → ReadsPaired mode (p ++ b ++ a ++ q) lent' doubles' sides' r table' reals' pairs'
    → SameScene (p ++ a ++ b ++ q) (p ++ b ++ a ++ q) (exchange_shift es p a b) n k table reals pairs r table' reals' pairs'
