-- The tidy text of a list of statements.
use Rattle.std.specs.Prelude.{List, [], ◌∷◌, ◌++◌, length}
use Rattle.buffer.specs.Decimal.{decimal}
use Rattle.laws.specs.Bytes.{Bytes, byte, bytes}
use Rattle.scene.specs.Reading.{newline}
use Rattle.scene.specs.Statement.{numeral_words, Body, primitive, alias, Statement}
use Rattle.scene.specs.Types.{type_name}

-- words, each behind a space
unfoldable pub spaced : List Bytes → Bytes
spaced [] = []
spaced (w ∷ ws) = byte " " ∷ w ++ spaced ws

-- "one space between words; each line ended by a newline": a first word and the words after it
abbrev pub line : Bytes → List Bytes → Bytes
line w ws = w ++ spaced ws ++ newline

-- "one line each for strings, integers and reals, each with its count first", and "counts lose leading zeros"
abbrev pub counted : List Bytes → Bytes
counted ws = line (decimal (length ws)) ws

-- "first line modifier, type, name"; "an alias on one line"; "Numerals and names keep their bytes"
abbrev pub body_text : (modifier name : Bytes) → Body → Bytes
body_text m n (primitive t ss rs) = line m (type_name t ∷ n ∷ []) ++ counted ss ++ counted [] ++ counted (numeral_words rs)
body_text m n (alias x) = line m (bytes "alias" ∷ n ∷ x ∷ [])

abbrev pub statement_text : Statement → Bytes
statement_text s = body_text s.modifier s.name s.body

-- statements stand latest first; "comments go"
unfoldable pub tidy : List Statement → Bytes
tidy [] = []
tidy (s ∷ d) = tidy d ++ statement_text s
