-- What a walk along the links sees of a table.
use Rattle.std.specs.Prelude.{List, ℕ}
use Rattle.scene.specs.Record.{record_in}

-- a primitive's type and its modifier link
pub record Node : Type 0 where
  pub type : ℕ
  pub modifier : ℕ

-- those of each number
abbrev pub View : Type 0
View = ℕ → Node

abbrev pub view_of : List ℕ → View
view_of table n = record { type = (record_in table n).type; modifier = (record_in table n).modifier }
