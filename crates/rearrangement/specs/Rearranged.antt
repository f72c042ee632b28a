-- "Extend demand 3 from two blocks to every rearrangement of these [..] the text is accepted at the same lent sizes, and all that demand 3
-- and L9 say of a primitive agrees after renumbering."
use Rattle.std.specs.Prelude.{List, ◌≡◌, ℕ, ◌≤◌, ◌<◌, length}
use Rattle.graph.specs.Answers.{shows}
use Rattle.laws.specs.Bytes.{Bytes}
use Rattle.laws.specs.Shuffle.{Shuffle}
use Rattle.rearrangement.specs.Cut.{Cut, Piece, joined, pieces, text_of}
use Rattle.rearrangement.specs.Order.{Ordered, Renumbering}
use Rattle.scene.specs.Exchange.{Renumbers}
use Rattle.scene.specs.Reading.{Entry, accepted, statements}
use Rattle.scene.specs.declared.Settings.{Settings}
use Rattle.sides.specs.Exchange.{renumbered_sides}
use Rattle.sides.specs.Read.{read}
use Rattle.sides.specs.Sides.{scene_graph}

pub record Rearranged (r : Settings) (text text' : Bytes) (es : List Entry) (old new : List Piece) : Type 0 where
  pub entries : List Entry
  pub reads : read r text' ≡ accepted entries
  pub renumbering : Renumbering old new
  -- demand 3: equal counts, and what text and table say of each primitive
  pub renumbers : Renumbers r text text' es entries renumbering.number
  -- request L9: its sides, and what it may show
  pub pairs : (n : ℕ) → 0 < n → n ≤ length es
      → (scene_graph (statements entries)).sides (renumbering.number n) ≡ renumbered_sides renumbering.number ((scene_graph (statements es)).sides n)
  pub shown : (n m : ℕ) → 0 < n → n ≤ length es → 0 < m → m ≤ length es
      → shows (scene_graph (statements entries)) (length entries) (renumbering.number n) (renumbering.number m) ≡ shows (scene_graph (statements es)) (length es) n m

-- for every accepted text that is cut into blocks, and every order of them that keeps that of dependent ones
abbrev pub RearrangeLaw : Type 0
RearrangeLaw = (r : Settings) (ts : List Bytes) (es : List Entry) (new : List Piece) → read r (joined ts) ≡ accepted es → Cut es 0 ts
    → Shuffle (pieces es 0 0 ts) new → Ordered new → Rearranged r (joined ts) (text_of new) es (pieces es 0 0 ts) new
