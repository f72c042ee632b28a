-- The name call, on a finished table whose numbers may be anything at all.
use Rattle.std.specs.Prelude.{◌&&◌, cond, List, [], ℕ, ◌+◌, eqb, leb, length}
use Rattle.laws.specs.Bytes.{Bytes}
use Rattle.scene.specs.Record.{name_in, record_in}
use Rattle.table.specs.Question.{number_refusal}

-- "18: [..] a name of length 0 or outside the text"
unfoldable pub name_test : Bytes → (place len : ℕ) → ℕ
name_test text place len = cond (leb 1 len && leb (place + len) (length text)) 0 18

-- the number of the name call's refusal, "0 for none"
unfoldable pub name_refusal : Bytes → (table : List ℕ) (count number : ℕ) → ℕ
name_refusal text table count n = cond (eqb (number_refusal table count n) 0) (name_test text (record_in table n).name (record_in table n).name_length) (number_refusal table count n)

-- "The name call shows a primitive's name as that part of the lent text", "refuses with an empty part"
unfoldable pub shown_name : Bytes → (table : List ℕ) (count number : ℕ) → Bytes
shown_name text table count n = cond (eqb (name_refusal text table count n) 0) (name_in text table n) []
