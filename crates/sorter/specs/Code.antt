-- The order that the code finds, and what is written of records that are those of a text.
use Rattle.std.specs.Prelude.{List, ◌≡◌, ℕ, min, length}
use Rattle.grouping.specs.Grouped.{grouped}
use Rattle.laws.specs.Bytes.{Bytes}
use Rattle.scene.specs.Reading.{Entry, accepted, read_statements}
use Rattle.scene.specs.Record.{record_image, record_in}
use Rattle.scene.specs.declared.Settings.{Settings}
use Rattle.sorter.specs.Answer.{sorted_outcome}
use Rattle.ties.specs.Ties.{classes_to, held_rows}
use Rattle.writer.specs.Answer.{Answer, Outcome, output, written}
use Rattle.writer.specs.Left.{Leaves}

-- the order of the first records, 1,024 at most
unfoldable pub order_in : Bytes → (table : List ℕ) → (count : ℕ) → List ℕ
order_in text T n = let many = min n 1024 in grouped (held_rows T (classes_to text T many)) (λ k. (record_in T k).type) many

-- what a call has left, and where a text is written the whole output: zeros stand behind it already
pub record Fills (o : Outcome) (out : Bytes) (r : Answer) (out' : Bytes) : Type 0 where
  pub leaves : Leaves o out r out'
  pub whole : (t : Bytes) → o ≡ written t → out' ≡ output (length out) o

-- where the table is that of an accepted text
abbrev pub LeavesSorted : Bytes → (table : List ℕ) → (count : ℕ) → (out : Bytes) → (r : Answer) → (out' : Bytes) → Type 0
LeavesSorted text T count out r out' =
    (s : Settings) (es : List Entry) (k : ℕ) → read_statements s text ≡ accepted es → T ≡ record_image text k (accepted es) → count ≡ length es → min count 1024 ≡ count
    → Fills (sorted_outcome text (length out) es) out r out'
