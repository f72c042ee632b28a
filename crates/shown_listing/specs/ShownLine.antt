-- The line of a surface with the materials that it may show.
use Rattle.std.specs.Prelude.{List, [], ◌∷◌, ◌++◌, ℕ, zero, suc}
use Rattle.buffer.specs.Decimal.{decimal}
use Rattle.fields.specs.Fields.{field, text_field}
use Rattle.laws.specs.Bytes.{Bytes, bytes}
use Rattle.scene.specs.Record.{name_in}

-- a comma before each number but the first, of which 0 stand before
abbrev pub label : ℕ → Bytes
label zero = []
label (suc k) = bytes ","

-- numbers, with commas between them, k of them standing before
unfoldable pub joined : ℕ → List ℕ → Bytes
joined k [] = []
joined k (n ∷ ns) = (label k ++ decimal n) ++ joined (suc k) ns

-- `no=7 name=panel shows=2,5`
unfoldable pub shown_line : Bytes → (table : List ℕ) → (n : ℕ) → (list : List ℕ) → Bytes
shown_line text table n list = field "no=" n ++ text_field " name=" (name_in text table n) ++ bytes " shows=" ++ joined 0 list ++ bytes "\n"
