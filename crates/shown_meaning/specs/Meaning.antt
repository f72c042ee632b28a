-- The list call on the tables of an accepted text: they pass its tests.
use Rattle.std.specs.Prelude.{true, List, ◌≡◌, ℕ, length}
use Rattle.graph.specs.Graph.{graph_of}
use Rattle.laws.specs.Bytes.{Bytes}
use Rattle.scene.specs.Reading.{Entry, accepted}
use Rattle.scene.specs.Record.{record_image}
use Rattle.scene.specs.declared.Settings.{Settings}
use Rattle.shown.specs.List.{table_fits}
use Rattle.sides.specs.Read.{read}
use Rattle.sides.specs.Sides.{pair_image}

-- so only a list that is too short is refused, by 23
abbrev pub FitsLaw : Type 0
FitsLaw = (r : Settings) (text : Bytes) (es : List Entry) (lent room : ℕ) → read r text ≡ accepted es
    → table_fits (graph_of (record_image text lent (accepted es)) (pair_image room (accepted es))) (length es) ≡ true
