-- The fields of a line.
use Rattle.std.specs.Prelude.{◌++◌, ℕ}
use Prim.Native.String.{String}
use Rattle.buffer.specs.Decimal.{decimal}
use Rattle.laws.specs.Bytes.{Bytes, bytes}
use Rattle.scene.specs.Types.{type_name}

-- a number behind its label
abbrev pub field : String → ℕ → Bytes
field label n = bytes label ++ decimal n

-- bytes behind their label
abbrev pub text_field : String → Bytes → Bytes
text_field label text = bytes label ++ text

-- the name of a type
abbrev pub kind_field : ℕ → Bytes
kind_field t = text_field " type=" (type_name t)

-- a line's last number, and the line's end
abbrev pub last_field : String → ℕ → Bytes
last_field label n = field label n ++ bytes "\n"
