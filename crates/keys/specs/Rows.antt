-- What a scene says of each of its primitives, latest first: a primitive's number is how many stand from it on.
use Rattle.std.specs.Prelude.{List, [], ◌∷◌, ℕ, zero, suc, ◌/◌, Float, length}
use Rattle.laws.specs.Bytes.{Bytes}
use Rattle.scene.specs.Reading.{Entry}
use Rattle.scene.specs.Record.{record_in, records, nth, real_table, width}
use Rattle.scene.specs.Told.{Told, tells}

-- what a text and two tables, whatever they hold, say of the first n
unfoldable pub rows_in : Bytes → (records : List ℕ) → (reals : List Float) → (n : ℕ) → List Told
rows_in text records reals zero = []
rows_in text records reals (suc n) = tells text reals (record_in records (suc n)) ∷ rows_in text records reals n

-- of all whole records that a table has
abbrev pub scene_rows : Bytes → (records : List ℕ) → (reals : List Float) → List Told
scene_rows text records reals = rows_in text records reals (length records / width)

-- of an accepted text
unfoldable pub rows_to : Bytes → List Entry → (n : ℕ) → List Told
rows_to text es zero = []
rows_to text es (suc n) = tells text (real_table es) (nth (records es) (suc n)) ∷ rows_to text es n

abbrev pub rows_of : Bytes → List Entry → List Told
rows_of text es = rows_to text es (length es)
