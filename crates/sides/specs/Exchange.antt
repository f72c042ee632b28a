-- Demand 3 with mixtures resolved: "Such mentions don't count as referring in demand 3, and after an exchange their answers agree once
-- renumbered, lists as sets".
use Rattle.std.specs.Prelude.{List, ◌++◌, ◌≡◌, ℕ, ◌≤◌, ◌<◌, length}
use Rattle.graph.specs.Answers.{shows}
use Rattle.graph.specs.Graph.{Sides}
use Rattle.laws.specs.Bytes.{Bytes}
use Rattle.scene.specs.Block.{Block, Independent}
use Rattle.scene.specs.Exchange.{Renumbers, exchange_shift, statements_in}
use Rattle.scene.specs.Reading.{Entry, accepted, statements}
use Rattle.scene.specs.declared.Settings.{Settings}
use Rattle.sides.specs.Read.{read}
use Rattle.sides.specs.Sides.{scene_graph, sides}

-- for every text p ++ a ++ b ++ q that is accepted with its mixtures resolved, with neighbouring independent blocks a and b
pub record MixedExchange (r : Settings) (p a b q : Bytes) (es : List Entry) : Type 0 where
  pub reads : read r (p ++ a ++ b ++ q) ≡ accepted es
  pub first : Block es p a
  pub second : Block es (p ++ a) b
  pub independent : Independent (statements_in es p a) (statements_in es (p ++ a) b)

abbrev pub renumbered_sides : (ℕ → ℕ) → Sides → Sides
renumbered_sides f s = sides (f s.foreground) (f s.background)

-- the new text is accepted too, so 25 and 26 never come from an exchange; the pair of the shifted n is the old one shifted, and it may
-- show the shifted m exactly where n might show m
pub record MixedExchanged (r : Settings) (p a b q : Bytes) (es : List Entry) : Type 0 where
  pub entries : List Entry
  pub reads : read r (p ++ b ++ a ++ q) ≡ accepted entries
  pub renumbers : Renumbers r (p ++ a ++ b ++ q) (p ++ b ++ a ++ q) es entries (exchange_shift es p a b)
  pub pairs : (n : ℕ) → 0 < n → n ≤ length es
      → (scene_graph (statements entries)).sides (exchange_shift es p a b n) ≡ renumbered_sides (exchange_shift es p a b) ((scene_graph (statements es)).sides n)
  pub shown : (n m : ℕ) → 0 < n → n ≤ length es → 0 < m → m ≤ length es
      → shows (scene_graph (statements entries)) (length entries) (exchange_shift es p a b n) (exchange_shift es p a b m) ≡ shows (scene_graph (statements es)) (length es) n m

abbrev pub MixedExchangeLaw : Type 0
MixedExchangeLaw = (r : Settings) (p a b q : Bytes) (es : List Entry) → MixedExchange r p a b q es → MixedExchanged r p a b q es
