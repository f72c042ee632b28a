-- The line of a surface with its finish.
use Rattle.std.specs.Prelude.{List, [], ◌++◌, ℕ}
use Rattle.fields.specs.Fields.{field, text_field, kind_field, last_field}
use Rattle.keys.specs.Key.{key_of, times}
use Rattle.keys.specs.Rows.{scene_rows}
use Rattle.laws.specs.Bytes.{Bytes}
use Rattle.scene.specs.Record.{line_in, name_in, record_in}

-- a surface: its number, the line that it stands on, its type and its name
abbrev pub surface_fields : (number line type : ℕ) → (name : Bytes) → Bytes
surface_fields number line type name = field "no=" number ++ field " line=" line ++ kind_field type ++ text_field " name=" name

-- those of record n of a text and its table
unfoldable pub surface_of : Bytes → (table : List ℕ) → (n : ℕ) → Bytes
surface_of text table n = surface_fields n (line_in table n) (record_in table n).type (name_in text table n)

-- its finish: number, name, the line of its definition, and which definition of that name it is, of how many
abbrev pub material_fields : (number : ℕ) → (name : Bytes) → (line nth of : ℕ) → Bytes
material_fields number name line nth of =
    field " finish=" number ++ text_field " finish_name=" name ++ field " finish_line=" line ++ field " nth=" nth ++ field " of=" of

-- record m, counted as in a comparison. No finish is 0, with no name
unfoldable pub material_of : Bytes → (table : List ℕ) → (m : ℕ) → Bytes
material_of text table m =
    let rows = scene_rows text table [] in
    material_fields m (name_in text table m) (line_in table m) (key_of rows m).nth (times (name_in text table m) rows)

-- and how many links lead there. The table is lent up to its last record
unfoldable pub finish_line : Bytes → (table : List ℕ) → (n m links : ℕ) → Bytes
finish_line text table n m links = surface_of text table n ++ material_of text table m ++ last_field " links=" links
