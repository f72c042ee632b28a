-- Whether a finished table, whose numbers may be anything at all, can be asked about a primitive.
use Rattle.std.specs.Prelude.{◌&&◌, cond, List, ℕ, ◌*◌, leb, length, Result, Ok, Err}
use Rattle.scene.specs.Reason.{reason_number}
use Rattle.scene.specs.Record.{width}
use Rattle.scene.specs.declared.Reason.{Reason}

-- "18: stated count over 1,024 or more than the table holds (tested first, before 17)"; "17: primitive number is 0 or above the
-- stated count"; 0 where the primitive can be asked about
unfoldable pub number_refusal : (table : List ℕ) (count number : ℕ) → ℕ
number_refusal table count n = cond (leb count 1024 && leb (count * width) (length table)) (cond (leb 1 n && leb n count) 0 17) 18

-- the number that an answer is given as: the reason's, and 0 where nothing is refused
abbrev pub refusal_number : {A : Type 0} → Result A Reason → ℕ
refusal_number (Ok a) = 0
refusal_number (Err r) = reason_number r
