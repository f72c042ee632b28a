-- A scene sorted: its statements grouped by type, as far as the order of those that are held allows.
use Rattle.std.specs.Prelude.{List, [], ◌∷◌, ◌++◌, ℕ, ◌-◌, get_or, length}
use Rattle.grouping.specs.Grouped.{grouped}
use Rattle.laws.specs.Bytes.{Bytes}
use Rattle.rearrangement.specs.Blocks.{behind_blocks, blocks}
use Rattle.rearrangement.specs.Held.{held_in}
use Rattle.scene.specs.Reading.{Entry, statements}
use Rattle.scene.specs.Record.{nth, records}

-- the numbers of the statements in their new order. A statement has the type of its record: an alias has its target's
unfoldable pub order_of : List Entry → List ℕ
order_of es = grouped (held_in (statements es)) (λ n. (nth (records es) n).type) (length es)

-- texts by their numbers, from 1, one behind the other
unfoldable pub in_order : List Bytes → List ℕ → Bytes
in_order ts [] = []
in_order ts (n ∷ ns) = get_or ts (n - 1) [] ++ in_order ts ns

-- the blocks in that order. What stands behind the last statement stays behind all
unfoldable pub sorted_text : Bytes → List Entry → Bytes
sorted_text text es = in_order (blocks text es) (order_of es) ++ behind_blocks text es
