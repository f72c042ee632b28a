-- Demand 3 of the list call: "after an exchange their answers agree once renumbered, lists as sets". The tables are those that two
-- reading calls leave, on a text and on the exchanged one.
use Rattle.std.specs.Prelude.{List, ◌++◌, ◌≡◌, ℕ, ◌≤◌, ◌<◌, Float, length}
use Rattle.graph.specs.Answers.{shown_in, stands_in}
use Rattle.graph.specs.Graph.{graph_of}
use Rattle.laws.specs.Bytes.{Bytes}
use Rattle.reader.specs.Paired.{ReadsPaired}
use Rattle.reader.specs.Answer.{Accepted, Answer}
use Rattle.scene.specs.Exchange.{exchange_shift}
use Rattle.scene.specs.Reading.{Entry}
use Rattle.scene.specs.Record.{settings_for}
use Rattle.scene.specs.declared.Mode.{Mode}
use Rattle.shown.specs.List.{shown_answer, shown_list}
use Rattle.shown.specs.Shown.{Listed}
use Rattle.sides.specs.Exchange.{MixedExchange}

-- a list with a number for each primitive is never refused
abbrev pub Lists : (n : ℕ) (table pairs : List ℕ) → Type 0
Lists n table pairs = (i room : ℕ) → 0 < i → i ≤ n → n ≤ room → shown_answer table pairs n i room ≡ Listed (length (shown_in (graph_of table pairs) n i))

-- primitive f m stands in the list of f i exactly where m stood in that of i
pub record SameLists (f : ℕ → ℕ) (n : ℕ) (table pairs table' pairs' : List ℕ) : Type 0 where
  pub before : Lists n table pairs
  pub after : Lists n table' pairs'
  pub members : (i m room : ℕ) → 0 < i → i ≤ n → 0 < m → m ≤ n → n ≤ room → stands_in (f m) (shown_list table' pairs' n (f i) room) ≡ stands_in m (shown_list table pairs n i room)

-- for either mode, every accepted text, two neighbouring independent blocks of it, and any two calls on tables of the same lengths
abbrev pub ListExchange : Type 0
ListExchange = (mode : Mode) (p a b q : Bytes) (es : List Entry) (lent lent' : List ℕ) (doubles doubles' : List Float) (sides sides' : List ℕ)
    → length lent' ≡ length lent → length doubles' ≡ length doubles → length sides' ≡ length sides
    → MixedExchange (settings_for mode (length lent) (length doubles)) p a b q es
    → (n k : ℕ) (table : List ℕ) (reals : List Float) (pairs : List ℕ) → ReadsPaired mode (p ++ a ++ b ++ q) lent doubles sides (Accepted n k) table reals pairs
    → (r : Answer) (table' : List ℕ) (reals' : List Float) (pairs' : List ℕ) → ReadsPaired mode (p ++ b ++ a ++ q) lent' doubles' sides' r table' reals' pairs'
    → SameLists (exchange_shift es p a b) n table pairs table' pairs'
