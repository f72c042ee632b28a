-- What is to be joined by the numbers of three accepted texts is what the definitions plan of their statements.
use mathlib.Core.Bool.{Bool, true, false, ◌&&◌, cond}
use mathlib.Core.List.{List, [], ◌++◌}
use mathlib.Core.Logic.{◌⊎◌, inl, inr}
use mathlib.Core.Option.{Option, none, some}
use mathlib.Core.Path.{◌≡◌, refl, ap, sym, ◌∙◌}
use Prim.Native.Nat.{ℕ, zero, suc, ◌≤◌, ◌<◌}
use native.Mathlib.Omega.{arith}
use borrow.Author.Tests.{eqb-false}
use lib.Dec.{eqb}
use lib.Ieee.{Float}
use lib.ListN.{length, length-append}
use Rattle.arranging.specs.Order.{Both, order_from}
use Rattle.joining.proofs.PickLaws.{picks}
use Rattle.joining.specs.Arranged.{arranged}
use Rattle.joining.specs.Definition.{names_once}
use Rattle.joining.specs.Outcome.{order_plan, pick_plan, plan_of, refused}
use Rattle.joining.specs.Pick.{picked}
use Rattle.joining.specs.declared.Scene.TheVariants.{None}
use Rattle.laws.proofs.BoolLaws.{or_false_left, or_false_right}
use Rattle.laws.proofs.NatLaws.{le_or_lt}
use Rattle.laws.specs.Bytes.{Bytes}
use Rattle.scene.specs.Reading.{Entry, accepted, read_statements, statements}
use Rattle.scene.specs.Record.{real_image}
use Rattle.scene.specs.Statement.{Statement}
use Rattle.scene.specs.declared.Settings.{Settings}
use Rattle.tabled.proofs.TabledLaws.{tabled_at, tabled_length}
use Rattle.tabled.specs.Tabled.{tabled}
use Rattle.table.proofs.NumberLaws.{no_number, number_past}
use Rattle.table.specs.Number.{number_in}
use Rattle.join_meaning.proofs.MarkLaws.{marks_meant}
use Rattle.join_meaning.proofs.MatchedLaws.{rows_count, rows_matched}
use Rattle.join_meaning.proofs.MeantLaws.{Marking, rows_meant}
use Rattle.join_meaning.proofs.OrderLaws.{order_meant}
use Rattle.join_meaning.specs.Kept.{in_turn_of, waiting}
use Rattle.join_meaning.specs.Matched.{Marked, MatchedIn}
use Rattle.join_meaning.specs.Rows as rows
use Rattle.join_meaning.specs.Rows.{PlanLaw, RowPlan, order_rows, plan_in, row_plan, stopped, used_rows}
use Rattle.match_meaning.proofs.NumberLaws.{once_meaning}
use Rattle.name_index.specs.Names.{names_once_in}
use Rattle.picking.proofs.PickingLaws.{mark_low}
use Rattle.picking.specs.Picking.{clash_to, taken_to}

-- ---- marks where none clashes

module _ (mark : ℕ → ℕ) (low : (n : ℕ) → mark n ≤ 2) where
  no_clash : (count n : ℕ) → clash_to mark count ≡ false → 0 < n → n ≤ count → eqb (mark n) 2 ≡ false
  unfolding clash_to
  no_clash zero n e l k = absurd (omega arith)
  no_clash (suc count) n e l k = go (le_or_lt n count) (no_clash count n)
    where
      go : (n ≤ count) ⊎ (count < n) → (clash_to mark count ≡ false → 0 < n → n ≤ count → eqb (mark n) 2 ≡ false) → eqb (mark n) 2 ≡ false
      go (inl z) ih = ih (or_false_left (clash_to mark count) (eqb (mark (suc count)) 2) e) l z
      go (inr z) ih = let q : n ≡ suc count = omega arith in ap (λ (m : ℕ). eqb (mark m) 2) q ∙ or_false_right (clash_to mark count) (eqb (mark (suc count)) 2) e

  -- each number is dropped or taken
  marks_low : (count : ℕ) → clash_to mark count ≡ false → (n : ℕ) → (number_in (tabled mark count) n ≡ 0) ⊎ (number_in (tabled mark count) n ≡ 1)
  marks_low count e zero = inl (sym (no_number (tabled mark count) 0 refl))
  marks_low count e (suc n) = go (le_or_lt (suc n) count)
    where
      least : (m : ℕ) → m ≤ 2 → eqb m 2 ≡ false → (m ≡ 0) ⊎ (m ≡ 1)
      least zero l f = inl refl
      least (suc zero) l f = inr refl
      least (suc (suc m)) l f = absurd (eqb-false (suc (suc m)) 2 f (omega arith))

      go : (suc n ≤ count) ⊎ (count < suc n) → (number_in (tabled mark count) (suc n) ≡ 0) ⊎ (number_in (tabled mark count) (suc n) ≡ 1)
      go (inl l) = rw (tabled_at mark (suc n) count (omega arith) l) (least (mark (suc n)) (low (suc n)) (no_clash count (suc n) e (omega arith) l))
      go (inr l) = inl (sym (number_past (tabled mark count) (suc n) (λ z. omega arith) (omega (arith, tabled_length mark count))))

-- ---- one order, by numbers and by statements

order_plan_lem : (both : List Statement) (x : Option (List ℕ)) → plan_in both (order_rows x) ≡ order_plan (in_turn_of both x)
order_plan_lem both none = refl
order_plan_lem both (some order) = refl

module _ (r : Settings) (few : r.records ≤ 1024) (base left right : Bytes) (bs ls rs : List Entry) (reads_base : read_statements r base ≡ accepted bs) (reads_left : read_statements r left ≡ accepted ls) (reads_right : read_statements r right ≡ accepted rs) (j k m : ℕ) where
  abbrev B : List ℕ
  B = used_rows base bs

  abbrev L : List ℕ
  L = used_rows left ls

  abbrev R : List ℕ
  R = used_rows right rs

  abbrev both : List Statement
  both = statements ls ++ statements rs

  abbrev x : List Float
  x = real_image j (accepted bs)

  abbrev y : List Float
  y = real_image k (accepted ls)

  abbrev z : List Float
  z = real_image m (accepted rs)

  abbrev left_right : List ℕ
  left_right = rows.left_right base B x left L y right R z

  abbrev left_base : List ℕ
  left_base = rows.left_base base B x left L y right R z

  abbrev right_left : List ℕ
  right_left = rows.right_left base B x left L y right R z

  abbrev right_base : List ℕ
  right_base = rows.right_base base B x left L y right R z

  abbrev mark : ℕ → ℕ
  mark = rows.row_mark base B x left L y right R z

  abbrev view : Both
  view = rows.row_view base B x left L y right R z

  abbrev count : ℕ
  count = length both

  abbrev marks : List ℕ
  marks = tabled mark count

  counts : rows.row_count base B x left L y right R z ≡ count
  counts = omega (arith, rows_count r left ls reads_left, rows_count r right rs reads_right, length-append (statements ls) (statements rs))

  module _ (once_left : names_once (statements ls) ≡ true) (once_right : names_once (statements rs) ≡ true) where
    left_in_right : MatchedIn (statements ls) (statements rs) left_right
    left_in_right = rows_matched r few left ls reads_left k right rs reads_right m

    right_in_left : MatchedIn (statements rs) (statements ls) right_left
    right_in_left = rows_matched r few right rs reads_right m left ls reads_left k

    marked : Marked (statements bs) (statements ls) (statements rs) left_right left_base right_left right_base
    marked =
        marks_meant (statements bs) (statements ls) (statements rs) left_right left_base right_left right_base once_left once_right
        left_in_right (rows_matched r few left ls reads_left k base bs reads_base j) right_in_left (rows_matched r few right rs reads_right m base bs reads_base j)

    module _ (free : clash_to mark count ≡ false) where
      -- what waits is picked, so its names stand once
      picks_waiting : picked (statements bs) (statements ls) (statements rs) ≡ some (waiting marks both)
      picks_waiting = marked.clashes ∙ ap (λ (b : Bool). cond b none (some (waiting marks both))) free

      marking : Marking r left right ls rs reads_left reads_right left_right right_left marks
      marking = record {
        hands = record { once_left = once_left; once_right = once_right; left_in_right = left_in_right; right_in_left = right_in_left; split = rows_count r right rs reads_right };
        size = tabled_length mark count;
        low = marks_low mark (mark_low left_right left_base right_left right_base) count free;
        once = ((picks (statements bs) (statements ls) (statements rs) once_left once_right).found (waiting marks both) picks_waiting).once;
      }

      ordered_alike : plan_in both (order_rows (order_from view (taken_to mark count) marks [])) ≡ order_plan (arranged (waiting marks both))
      ordered_alike =
          order_plan_lem both (order_from view (taken_to mark count) marks [])
          ∙ ap (λ (n : ℕ). order_plan (in_turn_of both (order_from view n marks []))) (marked.counted free)
          ∙ ap order_plan (order_meant both view marks (rows_meant r left right ls rs reads_left reads_right left_right right_left marks marking))

    -- both stop at a clash, or order the same
    picked_alike : plan_in both (cond (clash_to mark count) (stopped 30) (order_rows (order_from view (taken_to mark count) marks []))) ≡ pick_plan (picked (statements bs) (statements ls) (statements rs))
    picked_alike = go (clash_to mark count) refl ∙ ap pick_plan (sym marked.clashes)
      where
        go : (b : Bool) → clash_to mark count ≡ b → plan_in both (cond b (stopped 30) (order_rows (order_from view (taken_to mark count) marks []))) ≡ pick_plan (cond b none (some (waiting marks both)))
        go true e = refl
        go false e = ordered_alike e

    counted_alike : plan_in both (cond (clash_to mark (rows.row_count base B x left L y right R z)) (stopped 30) (rows.row_order base B x left L y right R z)) ≡ pick_plan (picked (statements bs) (statements ls) (statements rs))
    counted_alike = (λ i. plan_in both (cond (clash_to mark (counts i)) (stopped 30) (order_rows (order_from view (taken_to mark (counts i)) (tabled mark (counts i)) [])))) ∙ picked_alike

  -- both tell a name that stands twice
  once_alike : (names_once_in base B && names_once_in left L && names_once_in right R) ≡ (names_once (statements bs) && names_once (statements ls) && names_once (statements rs))
  once_alike = λ i. once_meaning r base bs reads_base few i && once_meaning r left ls reads_left few i && once_meaning r right rs reads_right few i

  plans : plan_in both (row_plan base B x left L y right R z) ≡ plan_of (statements bs) (statements ls) (statements rs)
  unfolding row_plan plan_of
  plans = ap (λ (b : Bool). plan_in both (cond b inner (stopped 29))) once_alike ∙ go (names_once (statements bs)) (names_once (statements ls)) refl (names_once (statements rs)) refl
    where
      inner : RowPlan
      inner = cond (clash_to mark (rows.row_count base B x left L y right R z)) (stopped 30) (rows.row_order base B x left L y right R z)

      go : (a b : Bool) → names_once (statements ls) ≡ b → (c : Bool) → names_once (statements rs) ≡ c
          → plan_in both (cond (a && b && c) inner (stopped 29)) ≡ cond (a && b && c) (pick_plan (picked (statements bs) (statements ls) (statements rs))) (refused None 29 0)
      go true true q true t = counted_alike q t
      go true true q false t = refl
      go true false q c t = refl
      go false b q c t = refl

pub plan_meant : PlanLaw
plan_meant = plans
