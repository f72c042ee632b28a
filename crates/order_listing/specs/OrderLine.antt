-- The line of two entries whose order is asked about.
use Rattle.std.specs.Prelude.{List, ◌++◌, ℕ}
use Rattle.fields.specs.Fields.{field, text_field}
use Rattle.laws.specs.Bytes.{Bytes, bytes}
use Rattle.precedence.specs.Order.{Order, Free, Held, Refused}
use Rattle.scene.specs.Record.{name_in}

-- ---- `first=3 second=5 order=held by=5 name=deskfront`

unfoldable pub order_text : Bytes → (table : List ℕ) → Order → Bytes
order_text text T Free = bytes " order=free\n"
order_text text T (Held k b) = field " order=held by=" k ++ text_field " name=" (name_in text T b) ++ bytes "\n"
order_text text T (Refused c) = field " refused=" c ++ bytes "\n"

unfoldable pub pair_line : Bytes → (table : List ℕ) → (first second : ℕ) → Order → Bytes
pair_line text T n m o = field "first=" n ++ field " second=" m ++ order_text text T o
