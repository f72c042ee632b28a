-- Every rearrangement of blocks, of the running reader: its answers and tables on a text and on the rearranged one. "the text is accepted
-- at the same lent sizes, and all that demand 3 and L9 say of a primitive agrees after renumbering."
use Rattle.std.specs.Prelude.{List, ◌≡◌, ℕ, ◌≤◌, Float, length}
use Rattle.laws.specs.Bytes.{Bytes}
use Rattle.laws.specs.Shuffle.{Shuffle}
use Rattle.reader.specs.Exchange.{SameScene}
use Rattle.reader.specs.Indexed.{Indexed, ReadsIndexed}
use Rattle.reader.specs.Paired.{ReadsPaired}
use Rattle.reader.specs.Answer.{Accepted, Answer}
use Rattle.rearrangement.specs.Cut.{Cut, Piece, joined, pieces, text_of}
use Rattle.rearrangement.specs.Order.{Ordered, Renumbering}
use Rattle.scene.specs.Reading.{Entry, accepted}
use Rattle.scene.specs.Record.{settings_for}
use Rattle.scene.specs.declared.Mode.{Mode}
use Rattle.sides.specs.Read.{read}

-- an accepted text that is cut into blocks, and an order of them that keeps that of dependent ones, at two lent sizes
pub record Rearrangement (mode : Mode) (numbers reals : ℕ) (ts : List Bytes) (es : List Entry) (new : List Piece) : Type 0 where
  pub reads : read (settings_for mode numbers reals) (joined ts) ≡ accepted es
  pub cut : Cut es 0 ts
  pub shuffled : Shuffle (pieces es 0 0 ts) new
  pub ordered : Ordered new

-- the second call accepts with the counts of the first, and what its tables say of each primitive agrees once renumbered
pub record SameRearranged (ts : List Bytes) (es : List Entry) (new : List Piece) (n k : ℕ) (table : List ℕ) (reals : List Float) (pairs : List ℕ) (r : Answer) (table' : List ℕ) (reals' : List Float) (pairs' : List ℕ) : Type 0 where
  pub renumbering : Renumbering (pieces es 0 0 ts) new
  pub same : SameScene (joined ts) (text_of new) renumbering.number n k table reals pairs r table' reals' pairs'

-- for either mode, and any two calls on tables of the same lengths
abbrev pub ReaderRearrange : Type 0
ReaderRearrange = (mode : Mode) (ts : List Bytes) (es : List Entry) (new : List Piece) (lent lent' : List ℕ) (doubles doubles' : List Float) (sides sides' : List ℕ)
    → length lent' ≡ length lent → length doubles' ≡ length doubles → length sides' ≡ length sides
    → Rearrangement mode (length lent) (length doubles) ts es new
    → (n k : ℕ) (table : List ℕ) (reals : List Float) (pairs : List ℕ) → ReadsPaired mode (joined ts) lent doubles sides (Accepted n k) table reals pairs
    → (r : Answer) (table' : List ℕ) (reals' : List Float) (pairs' : List ℕ) → ReadsPaired mode (text_of new) lent' doubles' sides' r table' reals' pairs'
    → SameRearranged ts es new n k table reals pairs r table' reals' pairs'

-- and with an index each
abbrev pub IndexedRearrange : Type 0
IndexedRearrange = (mode : Mode) (ts : List Bytes) (es : List Entry) (new : List Piece) (lent lent' : List ℕ) (doubles doubles' : List Float) (sides sides' index index' : List ℕ)
    → length lent' ≡ length lent → length doubles' ≡ length doubles → length sides' ≡ length sides → 2048 ≤ length index → 2048 ≤ length index'
    → Rearrangement mode (length lent) (length doubles) ts es new
    → (n k : ℕ) (r : Indexed) → r.answer ≡ Accepted n k
    → (table : List ℕ) (reals : List Float) (pairs x : List ℕ) → ReadsIndexed mode (joined ts) lent doubles sides index r table reals pairs x
    → (r' : Indexed) (table' : List ℕ) (reals' : List Float) (pairs' x' : List ℕ) → ReadsIndexed mode (text_of new) lent' doubles' sides' index' r' table' reals' pairs' x'
    → SameRearranged ts es new n k table reals pairs r'.answer table' reals' pairs'
