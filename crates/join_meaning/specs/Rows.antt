-- What is to be joined, by the numbers of three scenes' records, and what that means.
use Rattle.std.specs.Prelude.{◌&&◌, cond, List, [], ◌++◌, ◌≡◌, ℕ, ◌+◌, ◌*◌, ◌/◌, ◌≤◌, Float, length}
use Rattle.std.proofs.Math.Option.{Option, none, some}
use Rattle.arranging.specs.Both.{both_of}
use Rattle.arranging.specs.Order.{Both, order_from}
use Rattle.join_meaning.specs.Kept.{in_turn}
use Rattle.joining.specs.Outcome.{Plan, plan_of, planned, refused}
use Rattle.joining.specs.declared.Scene.TheVariants.{None}
use Rattle.laws.specs.Bytes.{Bytes}
use Rattle.matching.specs.Matching.{match_of}
use Rattle.name_index.specs.Names.{names_once_in}
use Rattle.picking.specs.Picking.{clash_to, mark_at, taken_to}
use Rattle.scene.specs.Reading.{Entry, accepted, read_statements, statements}
use Rattle.scene.specs.Record.{real_image, record_image, width}
use Rattle.scene.specs.Statement.{Statement}
use Rattle.scene.specs.declared.Settings.{Settings}
use Rattle.tabled.specs.Tabled.{tabled}

pub data RowPlan : Type 0 where
  stopped : (reason : ℕ) → RowPlan
  ordered : (order : List ℕ) → RowPlan

abbrev pub order_rows : Option (List ℕ) → RowPlan
order_rows none = stopped 31
order_rows (some order) = ordered order

module _ (base : Bytes) (B : List ℕ) (x : List Float) (left : Bytes) (L : List ℕ) (y : List Float) (right : Bytes) (R : List ℕ) (z : List Float) where
  abbrev pub left_right : List ℕ
  left_right = tabled (match_of left L y right R z) (length L / width)

  abbrev pub left_base : List ℕ
  left_base = tabled (match_of left L y base B x) (length L / width)

  abbrev pub right_left : List ℕ
  right_left = tabled (match_of right R z left L y) (length R / width)

  abbrev pub right_base : List ℕ
  right_base = tabled (match_of right R z base B x) (length R / width)

  abbrev pub row_mark : ℕ → ℕ
  row_mark = mark_at left_right left_base right_left right_base

  abbrev pub row_count : ℕ
  row_count = length R / width + length L / width

  abbrev pub row_view : Both
  row_view = both_of left L right R (right_left ++ left_right)

  abbrev pub row_order : RowPlan
  row_order = order_rows (order_from row_view (taken_to row_mark row_count) (tabled row_mark row_count) [])

  abbrev pub pick_rows : RowPlan
  pick_rows = cond (clash_to row_mark row_count) (stopped 30) row_order

  unfoldable pub row_plan : RowPlan
  row_plan = cond (names_once_in base B && names_once_in left L && names_once_in right R) pick_rows (stopped 29)

-- ---- what it means

abbrev pub plan_in : (both : List Statement) → RowPlan → Plan
plan_in both (stopped n) = refused None n 0
plan_in both (ordered order) = planned (in_turn both order)

-- the used records of an accepted text
abbrev pub used_rows : Bytes → List Entry → List ℕ
used_rows text es = record_image text (length es * width) (accepted es)

abbrev pub PlanLaw : Type 0
PlanLaw =
    (r : Settings) → r.records ≤ 1024 → (base left right : Bytes) (bs ls rs : List Entry) → read_statements r base ≡ accepted bs → read_statements r left ≡ accepted ls → read_statements r right ≡ accepted rs → (j k m : ℕ)
    → plan_in (statements ls ++ statements rs) (row_plan base (used_rows base bs) (real_image j (accepted bs)) left (used_rows left ls) (real_image k (accepted ls)) right (used_rows right rs) (real_image m (accepted rs)))
    ≡ plan_of (statements bs) (statements ls) (statements rs)
