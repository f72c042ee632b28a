-- The order of three scenes' records, as the code finds it.
use mathlib.Core.Bool.{Bool, true, false, cond, false≢true}
use mathlib.Core.List.{List, [], ◌++◌, append-nil}
use mathlib.Core.Logic.{◌⊎◌, inl, inr}
use mathlib.Core.Path.{◌≡◌, refl, ap, sym, ◌∙◌, subst}
use Prim.Native.Nat.{ℕ, zero, suc, ◌+◌, ◌-◌, ◌/◌, ◌≤◌, ◌<◌}
use native.Mathlib.Omega.{arith}
use borrow.Author.Tests.{eqb-false}
use lib.Dec.{eqb}
use lib.Ieee.{Float}
use lib.ListN.{length, take, drop, length-append, length-drop, drop_of_length-le}
use lib.Seq.{drop_at, length_front, length-take-le, take_at}
use Rattle.arranging.specs.Both.{both_of}
use Rattle.arranging.specs.Order as arranging
use Rattle.join_meaning.specs.Rows.{RowPlan, left_base, left_right, ordered, order_rows, pick_rows, right_base, right_left, row_count, row_mark, row_order, stopped}
use Rattle.laws.proofs.BoolLaws.{or_false_left, or_false_right}
use Rattle.laws.proofs.ListLaws.{rest_of}
use Rattle.laws.proofs.NatLaws.{le_or_lt}
use Rattle.laws.specs.Bytes.{Bytes}
use Rattle.matching.specs.Matching.{match_of}
use Rattle.picking.proofs.PickingLaws.{mark_low}
use Rattle.picking.specs.Picking.{Picks, clash_to, mark_at, taken_to}
use Rattle.planning.specs.Plan.{RowPlans, others_of}
use Rattle.scene.specs.declared.Reason.TheVariants.{ChangedByBoth, NoOrder}
use Rattle.std.specs.Prelude.{Option, Some, None, Ok, Err}
use Rattle.scene.specs.Record.{width}
use Rattle.tabled.proofs.TabledLaws.{tabled_length}
use Rattle.tabled.specs.Tabled.{tabled}

-- ---- the matches of both hands

-- the first n are written, then those behind them
pub both_tabled : (f g : ℕ → ℕ) (old front rest : List ℕ) (n m : ℕ) → length old ≡ n + m → front ≡ tabled f (length (take n old))
    → rest ≡ tabled g (length (take (length (front ++ drop n old) - n) (drop n (front ++ drop n old))))
    → take n (front ++ drop n old) ++ (rest ++ drop (length (front ++ drop n old) - n) (drop n (front ++ drop n old))) ≡ tabled f n ++ tabled g m
both_tabled f g old front rest n m e p q =
    let few : n ≤ length old = omega arith in
    let made : front ≡ tabled f n = p ∙ ap (tabled f) (length-take-le n old few) in
    let size : length front ≡ n = ap length made ∙ tabled_length f n in
    let behind : drop n (front ++ drop n old) ≡ drop n old = drop_at front (drop n old) n size in
    let all : length (front ++ drop n old) ≡ n + m = omega (arith, length-append front (drop n old), length-drop n old) in
    let left : length (drop n (front ++ drop n old)) ≡ m = ap length behind ∙ omega (arith, length-drop n old) in
    let many : length (take (length (front ++ drop n old) - n) (drop n (front ++ drop n old))) ≡ m = ap length (rest_of n (front ++ drop n old)) ∙ left in
    let nothing = drop_of_length-le (drop n (front ++ drop n old)) {i = length (front ++ drop n old) - n} (omega arith) in
    ap (λ (t : List ℕ). t ++ (rest ++ drop (length (front ++ drop n old) - n) (drop n (front ++ drop n old)))) (take_at front (drop n old) n size ∙ made)
    ∙ ap (λ (t : List ℕ). tabled f n ++ t) (ap (λ (t : List ℕ). rest ++ t) nothing ∙ append-nil rest ∙ q ∙ ap (tabled g) many)

-- ---- what is taken

-- what the code's `&others[split..]` holds
pub rest_picks : (split : ℕ) (others left_base right_base : List ℕ) (n : ℕ) (r : Option ℕ) (marks : List ℕ)
    → Picks (mark_at (take (length others - split) (drop split others)) left_base (take split others) right_base) n r marks
    → Picks (mark_at (drop split others) left_base (take split others) right_base) n r marks
rest_picks split others left_base right_base n r marks = subst (λ (t : List ℕ). Picks (mark_at t left_base (take split others) right_base) n r marks) (rest_of split others)

-- where nothing clashes, no more are taken than there are
taken_few : (mark : ℕ → ℕ) → ((n : ℕ) → mark n ≤ 2) → (n : ℕ) → clash_to mark n ≡ false → taken_to mark n ≤ n
unfolding clash_to taken_to
taken_few mark low zero f = omega arith
taken_few mark low (suc n) f = go (le_or_lt (mark (suc n)) 1) (taken_few mark low n (or_false_left (clash_to mark n) (eqb (mark (suc n)) 2) f))
  where
    go : (mark (suc n) ≤ 1) ⊎ (1 < mark (suc n)) → taken_to mark n ≤ n → taken_to mark (suc n) ≤ suc n
    go (inl h) ih = omega arith
    go (inr h) ih = absurd (eqb-false (mark (suc n)) 2 (or_false_right (clash_to mark n) (eqb (mark (suc n)) 2) f) (omega (arith, low (suc n))))

abbrev is_clash : Option ℕ → Bool
is_clash None = true
is_clash (Some k) = false

abbrev count_of : Option ℕ → ℕ
count_of None = 0
count_of (Some k) = k

-- so many are taken, by marks that do not clash
pub record Counted (mark : ℕ → ℕ) (n k : ℕ) (marks : List ℕ) : Type 0 where
  pub free : clash_to mark n ≡ false
  pub total : k ≡ taken_to mark n
  pub marked : marks ≡ tabled mark n

module _ (mark : ℕ → ℕ) (n : ℕ) (r : Option ℕ) (marks : List ℕ) (h : Picks mark n r marks) where
  clashing : r ≡ None → clash_to mark n ≡ true
  clashing e = go (clash_to mark n) (sym e ∙ h.answer)
    where
      go : (b : Bool) → None ≡ cond b None (Some (taken_to mark n)) → b ≡ true
      go true q = refl
      go false q = absurd (false≢true (sym (ap is_clash q)))

  pub counted : (k : ℕ) → r ≡ Some k → Counted mark n k marks
  counted k e =
      let f = go (clash_to mark n) (sym e ∙ h.answer) in
      record { free = f; total = ap count_of (sym e ∙ h.answer ∙ ap (λ (b : Bool). cond b None (Some (taken_to mark n))) f); marked = h.marked f }
    where
      go : (b : Bool) → Some k ≡ cond b None (Some (taken_to mark n)) → b ≡ false
      go false q = refl
      go true q = absurd (false≢true (ap is_clash q))

-- ---- the tables that were lent

-- what the code's `&table[..n]` holds of a table whose first n were filled
pub tabled_front : (f : ℕ → ℕ) (n m : ℕ) → m ≡ n → (front rest : List ℕ) → front ≡ tabled f m → take n (front ++ rest) ≡ tabled f n
tabled_front f n m e front rest h = take_at front rest n (ap length h ∙ tabled_length f m ∙ e) ∙ h ∙ ap (tabled f) e

-- the first n of n + m are within that part
pub front_has : (n m : ℕ) (front rest : List ℕ) → length front ≡ n + m → n ≤ length (take (n + m) (front ++ rest))
front_has n m front rest e = omega (arith, ap length (take_at front rest (n + m) e))

module _ (left : Bytes) (L : List ℕ) (y : List Float) (right : Bytes) (R : List ℕ) (z : List Float) (front : List ℕ) (h : front ≡ others_of left L y right R z) where
  pub others_length : length front ≡ length R / width + length L / width
  others_length =
      let f = match_of right R z left L y in
      let g = match_of left L y right R z in
      ap length h ∙ omega (arith, length-append (tabled f (length R / width)) (tabled g (length L / width)), tabled_length f (length R / width), tabled_length g (length L / width))

  pub others_front : (rest : List ℕ) → take (length R / width + length L / width) (front ++ rest) ≡ others_of left L y right R z
  others_front rest = take_at front rest (length R / width + length L / width) others_length ∙ h

module _ (base : Bytes) (B : List ℕ) (x : List Float) (left : Bytes) (L : List ℕ) (y : List Float) (right : Bytes) (R : List ℕ) (z : List Float) where
  abbrev rights : List ℕ
  rights = right_left base B x left L y right R z

  abbrev lefts : List ℕ
  lefts = left_right base B x left L y right R z

  abbrev mark : ℕ → ℕ
  mark = row_mark base B x left L y right R z

  abbrev count : ℕ
  count = row_count base B x left L y right R z

  abbrev both : List ℕ
  both = others_of left L y right R z

  -- what is picked from the tables
  pub rows_picked : (others of_left of_right : List ℕ) → others ≡ both → of_left ≡ left_base base B x left L y right R z → of_right ≡ right_base base B x left L y right R z → (n : ℕ) → n ≡ count → (r : Option ℕ) (marks : List ℕ)
      → Picks (mark_at (drop (length R / width) others) of_left (take (length R / width) others) of_right) n r marks → Picks mark count r marks
  rows_picked others of_left of_right o a b n e r marks h =
      let size = tabled_length (match_of right R z left L y) (length R / width) in
      let fore : take (length R / width) others ≡ rights = ap (take (length R / width)) o ∙ take_at rights lefts (length R / width) size in
      let hind : drop (length R / width) others ≡ lefts = ap (drop (length R / width)) o ∙ drop_at rights lefts (length R / width) size in
      subst (λ (m : ℕ). Picks mark m r marks) e (subst (λ (f : ℕ → ℕ). Picks f n r marks) (λ i. mark_at (hind i) (a i) (fore i) (b i)) h)

  module _ (k : ℕ) (marks : List ℕ) (h : Counted mark count k marks) where
    pub count_few : k ≤ count
    count_few = omega (arith, h.total, taken_few mark (mark_low lefts (left_base base B x left L y right R z) rights (right_base base B x left L y right R z)) count h.free)

    pub marks_front : (rest : List ℕ) → take count (marks ++ rest) ≡ tabled mark count
    marks_front rest = tabled_front mark count count refl marks rest h.marked

  -- ---- the answers

  abbrev plan : RowPlan
  plan = pick_rows base B x left L y right R z

  pub rows_clash : (order : List ℕ) (r : Option ℕ) (marks : List ℕ) → Picks mark count r marks → r ≡ None → RowPlans plan order (Err ChangedByBoth) order
  rows_clash order r marks h e = record { says = sym (ap (λ (b : Bool). cond b (stopped 30) (row_order base B x left L y right R z)) (clashing mark count r marks h e)); size = refl }

  module _ (k : ℕ) (marks : List ℕ) (h : Counted mark count k marks) (order part others used : List ℕ) (o : others ≡ both) (u : used ≡ tabled mark count) (few : k ≤ length order) (kept : length part ≡ length (take k order)) where
    found : (r : Bool) → arranging.ordered r part ≡ arranging.order_from (both_of left L right R others) (length (take k order)) used [] → order_rows (arranging.ordered r part) ≡ plan
    found r e =
        let n : length (take k order) ≡ taken_to mark count = length-take-le k order few ∙ h.total in
        ap order_rows (e ∙ (λ i. arranging.order_from (both_of left L right R (o i)) (n i) (u i) []))
        ∙ sym (ap (λ (b : Bool). cond b (stopped 30) (row_order base B x left L y right R z)) h.free)

    pub rows_made : (r : Bool) → r ≡ true → arranging.ordered r part ≡ arranging.order_from (both_of left L right R others) (length (take k order)) used [] → RowPlans plan order (Ok k) (part ++ drop k order)
    rows_made r t e = record {
      says = ap ordered (take_at part (drop k order) k (kept ∙ length-take-le k order few)) ∙ sym (ap (λ (b : Bool). order_rows (arranging.ordered b part)) t) ∙ found r e;
      size = length_front order part k kept;
    }

    pub rows_stuck : (r : Bool) → r ≡ false → arranging.ordered r part ≡ arranging.order_from (both_of left L right R others) (length (take k order)) used [] → RowPlans plan order (Err NoOrder) (part ++ drop k order)
    rows_stuck r t e = record { says = sym (ap (λ (b : Bool). order_rows (arranging.ordered b part)) t) ∙ found r e; size = length_front order part k kept }
