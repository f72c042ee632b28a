-- What is proved of a sorted scene.
use Rattle.std.specs.Prelude.{List, [], ◌≡◌, length}
use Rattle.comparison.specs.Compare.{compared}
use Rattle.keys.specs.Rows.{rows_of}
use Rattle.laws.specs.Bytes.{Bytes}
use Rattle.laws.specs.Shuffle.{Shuffle}
use Rattle.rearrangement.specs.Blocks.{all_blocks, can, verdict}
use Rattle.rearrangement.specs.Cut.{Cut, Piece, joined, pieces, text_of}
use Rattle.rearrangement.specs.Order.{Ordered}
use Rattle.rearrangement.specs.Rearranged.{Rearranged}
use Rattle.scene.specs.Reading.{Entry, accepted}
use Rattle.scene.specs.declared.Settings.{Settings}
use Rattle.sides.specs.Read.{read}
use Rattle.sorting.specs.Sorted.{sorted_text}

-- a way to cut a text "into 01's blocks, each of at most one statement"
pub record Cuttable (text : Bytes) (es : List Entry) : Type 0 where
  pub parts : List Bytes
  pub whole : joined parts ≡ text
  pub cut : Cut es 0 parts

-- an accepted text is refused by 33 or 34 exactly where there is none
abbrev pub CutLaw : Type 0
CutLaw = (r : Settings) (text : Bytes) (es : List Entry) → read r text ≡ accepted es → (verdict text es ≡ can → Cuttable text es) × (Cuttable text es → verdict text es ≡ can)

-- a rearrangement, and the comparison of the texts before and after shows nothing
abbrev pub Unchanged : (r : Settings) (text text' : Bytes) (es : List Entry) (old new : List Piece) → Type 0
Unchanged r text text' es old new = (x : Rearranged r text text' es old new) × (compared (rows_of text es) (rows_of text' x.entries) ≡ [])

-- the blocks of a text in a new order, which keeps that of dependent ones: so it is "accepted at the same lent sizes, and all that demand 3
-- and L9 say of a primitive agrees after renumbering"
pub record SortedScene (r : Settings) (text : Bytes) (es : List Entry) : Type 0 where
  pub whole : joined (all_blocks text es) ≡ text
  pub cut : Cut es 0 (all_blocks text es)
  pub new : List Piece
  pub shuffled : Shuffle (pieces es 0 0 (all_blocks text es)) new
  pub ordered : Ordered new
  pub sorted : text_of new ≡ sorted_text text es
  pub long : length (sorted_text text es) ≡ length text
  pub unchanged : Unchanged r text (sorted_text text es) es (pieces es 0 0 (all_blocks text es)) new

abbrev pub SortLaw : Type 0
SortLaw = (r : Settings) (text : Bytes) (es : List Entry) → read r text ≡ accepted es → verdict text es ≡ can → SortedScene r text es
