-- The lines of a listing.
use Rattle.std.specs.Prelude.{cond, List, [], ◌++◌, ℕ, eqb}
use Rattle.fields.specs.Fields.{field, text_field, kind_field, last_field}
use Rattle.laws.specs.Bytes.{Bytes, bytes}
use Rattle.scene.specs.Record.{Answer, name_in, record_in}
use Rattle.scene.specs.declared.Mode.{Mode}
use Rattle.scene.specs.declared.Mode.TheVariants.{New, Archive}

-- "an accepted listing adds `archive=1` as its first line"
abbrev pub mode_line : Mode → Bytes
mode_line New = []
mode_line Archive = bytes "archive=1\n"

-- the first lines: the mode and the counts, or the reason for refusing and its place
unfoldable pub head_lines : Mode → Answer → Bytes
head_lines mode a =
    cond (eqb a.reason 0)
    (mode_line mode ++ (field "primitives=" a.primitives ++ last_field " reals=" a.reals))
    (field "refused=" a.reason ++ last_field " place=" a.place)

-- the line of a record: its number, its links and its type, and then its name and the next of that name
abbrev pub links_of : (number modifier target type : ℕ) → Bytes
links_of number modifier target type = field "no=" number ++ field " mod=" modifier ++ field " alias=" target ++ kind_field type

unfoldable pub line_of : (number modifier target type : ℕ) → (name : Bytes) → (next : ℕ) → Bytes
line_of number modifier target type name next =
    links_of number modifier target type ++ text_field " name=" name ++ last_field " next=" next

-- the line of record n of a text and its table
unfoldable pub row_line : Bytes → List ℕ → ℕ → Bytes
row_line text table n =
    let r = record_in table n in
    line_of n r.modifier r.target r.type (name_in text table n) r.next
