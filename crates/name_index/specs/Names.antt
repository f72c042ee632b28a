-- The names of a table's records, each entered in an index, surfaces too.
use Rattle.std.specs.Prelude.{Bool, true, ◌&&◌, List, ℕ, zero, suc, ◌/◌, min, eqb, length}
use Rattle.index.specs.Index.{Primitives}
use Rattle.index.specs.Searches.{latest_of}
use Rattle.laws.specs.Bytes.{Bytes}
use Rattle.scene.specs.Record.{name_in, width}

-- how many records are looked at
abbrev pub count_in : List ℕ → ℕ
count_in T = min 1024 (length T / width)

module _ (text : Bytes) (T : List ℕ) where
  abbrev pub rows : Primitives
  rows = record { name = name_in text T; gives = λ n. true }

  -- the number of the latest record of a name, 0 for none
  unfoldable pub number_of_name : Bytes → ℕ
  number_of_name w = latest_of rows w (count_in T)

  -- each of the first n records is the latest of its name
  unfoldable pub latest_to : ℕ → Bool
  latest_to zero = true
  latest_to (suc n) = latest_to n && eqb (number_of_name (name_in text T (suc n))) (suc n)

  abbrev pub names_once_in : Bool
  names_once_in = latest_to (count_in T)
