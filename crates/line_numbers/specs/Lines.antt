-- The line of a name, counted on from the name before it, over a table that may hold anything.
use Rattle.std.specs.Prelude.{List, ℕ, zero, suc, ◌+◌, ◌-◌, min}
use Rattle.laws.specs.Bytes.{Bytes, part}
use Rattle.scene.specs.Record.{field_in, line_in, newlines}

-- the line of the name of record n, and before the first record that of the text's start
abbrev pub line_before : List ℕ → (n : ℕ) → ℕ
line_before table zero = 1
line_before table (suc n) = line_in table (suc n)

-- the text from the name of record n, or its own start, up to a place
abbrev pub passed : Bytes → List ℕ → (n place : ℕ) → Bytes
passed text table n place = let from = field_in table n 3 in part text from (place - min from place)

-- the line of a name at that place
unfoldable pub line_from : Bytes → List ℕ → (n place : ℕ) → ℕ
line_from text table n place = line_before table n + newlines (passed text table n place)
