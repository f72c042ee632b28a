-- Rows that are planned, and what an answer means by them.
use mathlib.Core.Bool.{Bool, true, false, not, ◌&&◌, cond}
use mathlib.Core.List.{List, [], ◌++◌}
use mathlib.Core.Option.{Option, none, some}
use mathlib.Core.Path.{◌≡◌, refl, ap, sym, ◌∙◌, subst}
use Prim.Native.Nat.{ℕ, ◌+◌, ◌*◌, ◌/◌, ◌≤◌, min}
use native.Mathlib.Omega.{arith}
use lib.Ieee.{Float}
use lib.ListN.{length, length-append, length-take, take}
use Rattle.arranging.specs.Order.{order_from}
use Rattle.join_meaning.proofs.MatchedLaws.{rows_count}
use Rattle.join_meaning.proofs.PlanLaws.{plan_meant}
use Rattle.join_meaning.proofs.UsedLaws.{same_room, used_rows_lem}
use Rattle.join_meaning.proofs.WrittenLaws.{numbers_low}
use Rattle.join_meaning.specs.Rows as rows
use Rattle.join_meaning.specs.Rows.{RowPlan, ordered, order_rows, pick_rows, plan_in, row_plan, stopped, used_rows}
use Rattle.join_meaning.specs.Written.{Numbers}
use Rattle.joining.specs.Outcome.{plan, plan_read, refused}
use Rattle.joining.specs.declared.Scene.{Scene}
use Rattle.joining.specs.declared.Scene.TheVariants as scene
use Rattle.laws.specs.Bytes.{Bytes}
use Rattle.name_index.specs.Names.{names_once_in}
use Rattle.pair.specs.Both.{ReadsBoth, beside, both_answer}
use Rattle.pair.specs.Both as both
use Rattle.pair.specs.declared.Side.{Side}
use Rattle.pair.specs.declared.Side.TheVariants as on
use Rattle.picking.specs.Picking.{clash_to, taken_to}
use Rattle.planning.specs.Plan.{HandPlans, Means, Plans, RowPlans, order_answer, row_answer, side_scene}
use Rattle.scene.specs.declared.Reason.{Reason}
use Rattle.scene.specs.declared.Reason.TheVariants.{NameTwice}
use Rattle.std.specs.Prelude.{Result, Ok, Err}
use Rattle.planning.specs.Plan.{Reply}
use Rattle.planning.specs.Plan.{Refused}
use Rattle.reader.proofs.ReadsLaws.{accepted_as, refused_as}
use Rattle.reader.specs.Answer.{Reads, read_into}
use Rattle.reader.specs.Answer as reader
use Rattle.scene.specs.Reading as reading
use Rattle.scene.specs.Reading.{Entry, Reading, accepted, statements}
use Rattle.scene.specs.Record.{real_image, record_image, settings_for, width}
use Rattle.scene.specs.declared.Mode.{Mode}
use Rattle.scene.specs.declared.Settings.{Settings}
use Rattle.sides.proofs.FitLaws.{reals_kept}
use Rattle.sides.proofs.MixedLaws.{resolved}
use Rattle.sides.specs.Read.{read}
use Rattle.tabled.proofs.TabledLaws.{tabled_length}
use Rattle.tabled.specs.Tabled.{tabled}

-- ---- room

-- what is lent of a table is no longer than asked
pub few_lent : {A : Type 0} (k most : ℕ) (xs : List A) → k ≤ most → length (take k xs) ≤ most
few_lent k most xs h = omega (arith, length-take k xs)

-- and of few numbers there are few records
pub few_records : (count n : ℕ) → n ≤ 11264 → (table lent used : List ℕ) → length table ≡ n → lent ≡ table → used ≡ take (min count (length lent / width) * width) lent → length used / width ≤ 1024
few_records count n h table lent used l t e = omega (arith, ap length t, ap length e, length-take (min count (length lent / width) * width) lent)

-- ---- names that stand once in each of three scenes

module _ (a b c : Bool) where
  pub twice_first : (r : Bool) → r ≡ a → not r ≡ true → true ≡ not (a && b && c)
  twice_first r e h = go a (ap not (sym e) ∙ h)
    where
      go : (a : Bool) → not a ≡ true → true ≡ not (a && b && c)
      go true h = let w : ◌≡◌ {A = ℕ} 0 1 = cc in absurd (omega arith)
      go false h = refl

  pub twice_second : (r t : Bool) → r ≡ a → not r ≡ false → t ≡ b → not t ≡ true → true ≡ not (a && b && c)
  twice_second r t e h f k = go a b (ap not (sym e) ∙ h) (ap not (sym f) ∙ k)
    where
      go : (a b : Bool) → not a ≡ false → not b ≡ true → true ≡ not (a && b && c)
      go false b h k = let w : ◌≡◌ {A = ℕ} 0 1 = cc in absurd (omega arith)
      go true true h k = let w : ◌≡◌ {A = ℕ} 0 1 = cc in absurd (omega arith)
      go true false h k = refl

  pub twice_third : (r t u : Bool) → r ≡ a → not r ≡ false → t ≡ b → not t ≡ false → u ≡ c → not u ≡ not (a && b && c)
  twice_third r t u e h f k g = go a b (ap not (sym e) ∙ h) (ap not (sym f) ∙ k) (ap not g)
    where
      go : (a b : Bool) → not a ≡ false → not b ≡ false → not u ≡ not c → not u ≡ not (a && b && c)
      go false b h k g = let w : ◌≡◌ {A = ℕ} 0 1 = cc in absurd (omega arith)
      go true false h k g = let w : ◌≡◌ {A = ℕ} 0 1 = cc in absurd (omega arith)
      go true true h k g = g

-- ---- the plan of rows

module _ (base : Bytes) (B : List ℕ) (x : List Float) (left : Bytes) (L : List ℕ) (y : List Float) (right : Bytes) (R : List ℕ) (z : List Float) (order : List ℕ) where
  abbrev once : Bool
  once = names_once_in base B && names_once_in left L && names_once_in right R

  pub rows_twice : true ≡ not once → RowPlans (row_plan base B x left L y right R z) order (Err NameTwice) order
  unfolding row_plan
  rows_twice h = go once h
    where
      go : (b : Bool) → true ≡ not b → RowPlans (cond b (pick_rows base B x left L y right R z) (stopped 29)) order (Err NameTwice) order
      go true e = let w : ◌≡◌ {A = ℕ} 0 1 = cc in absurd (omega arith)
      go false e = record { says = refl; size = refl }

  pub rows_once : (r : Result ℕ Reason) (order' : List ℕ) → false ≡ not once → RowPlans (pick_rows base B x left L y right R z) order r order' → RowPlans (row_plan base B x left L y right R z) order r order'
  unfolding row_plan
  rows_once r order' h p = go once h
    where
      go : (b : Bool) → false ≡ not b → RowPlans (cond b (pick_rows base B x left L y right R z) (stopped 29)) order r order'
      go true e = p
      go false e = let w : ◌≡◌ {A = ℕ} 0 1 = cc in absurd (omega arith)

-- the numbers of a planned order are those of both hands' records
module _ (base : Bytes) (B : List ℕ) (x : List Float) (left : Bytes) (L : List ℕ) (y : List Float) (right : Bytes) (R : List ℕ) (z : List Float) (order : List ℕ) where
  abbrev mark : ℕ → ℕ
  mark = rows.row_mark base B x left L y right R z

  abbrev count : ℕ
  count = rows.row_count base B x left L y right R z

  abbrev orders : Option (List ℕ)
  orders = order_from (rows.row_view base B x left L y right R z) (taken_to mark count) (tabled mark count) []

  abbrev order_in : RowPlan → List ℕ
  order_in (stopped n) = []
  order_in (ordered o) = o

  abbrev IsOrdered : RowPlan → Type 0
  IsOrdered (stopped n) = ⊥
  IsOrdered (ordered o) = Unit {0}

  not_stopped : (n : ℕ) → stopped n ≡ ordered order → ⊥
  not_stopped n e = subst IsOrdered (sym e) tt

  order_numbers : (o : Option (List ℕ)) → orders ≡ o → order_rows o ≡ ordered order → Numbers count order
  order_numbers none e p = absurd (not_stopped 31 p)
  order_numbers (some o) e p =
      subst (λ (m : ℕ). Numbers m order) (tabled_length mark count)
      (numbers_low (rows.row_view base B x left L y right R z) (taken_to mark count) (tabled mark count) [] order (e ∙ ap (λ (q : RowPlan). some (order_in q)) p) tt)

  pub row_numbers : row_plan base B x left L y right R z ≡ ordered order → Numbers count order
  unfolding row_plan
  row_numbers h = go (names_once_in base B && names_once_in left L && names_once_in right R) (clash_to mark count) h
    where
      go : (b d : Bool) → cond b (cond d (stopped 30) (order_rows orders)) (stopped 29) ≡ ordered order → Numbers count order
      go true true e = absurd (not_stopped 30 e)
      go true false e = order_numbers orders refl e
      go false d e = absurd (not_stopped 29 e)

-- ---- the plan of texts

module _ (s : Settings) (few : s.records ≤ 1024) (base left right : Bytes) (bs ls rs : List Entry) (reads_base : read s base ≡ accepted bs) (reads_left : read s left ≡ accepted ls) (reads_right : read s right ≡ accepted rs) (j k m : ℕ) where
  abbrev B : List ℕ
  B = used_rows base bs

  abbrev L : List ℕ
  L = used_rows left ls

  abbrev R : List ℕ
  R = used_rows right rs

  abbrev rows_plan : RowPlan
  rows_plan = row_plan base B (real_image j (accepted bs)) left L (real_image k (accepted ls)) right R (real_image m (accepted rs))

  plans : plan s base left right ≡ plan_in (statements ls ++ statements rs) rows_plan
  plans =
      (λ i. plan_read (reads_base i) (reads_left i) (reads_right i))
      ∙ sym (plan_meant s few base left right bs ls rs (resolved s base bs reads_base).reads (resolved s left ls reads_left).reads (resolved s right rs reads_right).reads j k m)

  counts : length R / width + length L / width ≡ length (statements ls ++ statements rs)
  counts = omega (arith, rows_count s left ls (resolved s left ls reads_left).reads, rows_count s right rs (resolved s right rs reads_right).reads, length-append (statements ls) (statements rs))

  pub planned_rows : (r : Result ℕ Reason) (order : List ℕ) → row_answer r order ≡ rows_plan → Means s base left right (order_answer r) order
  planned_rows (Err n) order h = plans ∙ ap (plan_in (statements ls ++ statements rs)) (sym h)
  planned_rows (Ok n) order h = record {
    lefts = ls;
    rights = rs;
    reads_left = reads_left;
    reads_right = reads_right;
    numbers = subst (λ (c : ℕ). Numbers c (take n order)) counts (row_numbers base B (real_image j (accepted bs)) left L (real_image k (accepted ls)) right R (real_image m (accepted rs)) (take n order) (sym h));
    means = plans ∙ ap (plan_in (statements ls ++ statements rs)) (sym h);
  }

-- ---- both hands' texts

-- the side that is refused
side_refused : (side : Side) (n p : ℕ) (x y : Reading) → both.Refused side n p ≡ both_answer x y → (bs : List Entry) → plan_read (accepted bs) x y ≡ refused (side_scene side) n p
side_refused side n p (reading.refused m q) y e bs =
    let a : on.Left ≡ side = cc in
    let b : m ≡ n = cc in
    let c : q ≡ p = cc in
    λ i. refused (side_scene (a i)) (b i) (c i)
side_refused side n p (accepted es) (reading.refused m q) e bs =
    let a : on.Right ≡ side = cc in
    let b : m ≡ n = cc in
    let c : q ≡ p = cc in
    λ i. refused (side_scene (a i)) (b i) (c i)
side_refused side n p (accepted es) (accepted fs) e bs = let w : ◌≡◌ {A = ℕ} 0 1 = cc in absurd (omega arith)

-- the entries of both
record BothAccepted (x y : Reading) (m k : ℕ) : Type 0 where
  lefts : List Entry
  rights : List Entry
  reads_left : x ≡ accepted lefts
  reads_right : y ≡ accepted rights
  left_count : m ≡ length lefts
  right_count : k ≡ length rights

both_accepted : (x y : Reading) (m j k l : ℕ) → both.Read m j k l ≡ both_answer x y → BothAccepted x y m k
both_accepted (reading.refused n p) y m j k l e = let w : ◌≡◌ {A = ℕ} 0 1 = cc in absurd (omega arith)
both_accepted (accepted es) (reading.refused n p) m j k l e = let w : ◌≡◌ {A = ℕ} 0 1 = cc in absurd (omega arith)
both_accepted (accepted es) (accepted fs) m j k l e = record { lefts = es; rights = fs; reads_left = refl; reads_right = refl; left_count = cc; right_count = cc }

-- tables as long as the base's
module _ (mode : Mode) (n : ℕ) (base : Bytes) (B : List ℕ) (x : List Float) (left : Bytes) (lr : List ℕ) (lx : List Float) (right : Bytes) (rr : List ℕ) (rx : List Float) (lr' : List ℕ) (lx' : List Float) (rr' : List ℕ) (rx' : List Float) (order : List ℕ) (ln : length lr ≡ n) (lk : length lx ≡ length x) (rn : length rr ≡ n) (rk : length rx ≡ length x) where
  abbrev own : Settings
  own = settings_for mode n (length x)

  same_left : read_into mode left lr lx ≡ read own left
  same_left = λ i. read (settings_for mode (ln i) (lk i)) left

  same_right : read_into mode right rr rx ≡ read own right
  same_right = λ i. read (settings_for mode (rn i) (rk i)) right

  pub hands_refused : (side : Side) (reason place : ℕ) → ReadsBoth mode left lr lx right rr rx (both.Refused side reason place) lr' lx' rr' rx' → (t : Scene) → t ≡ side_scene side → HandPlans mode n base B x left right order (Refused t reason place) order
  hands_refused side reason place h t e = record {
    means =
        λ bs j reads_base _ _.
        (λ i. plan_read (reads_base i) (sym same_left i) (sym same_right i))
        ∙ side_refused side reason place (read_into mode left lr lx) (read_into mode right rr rx) h.says bs
        ∙ ap (λ (u : Scene). refused u reason place) (sym e);
    size = refl;
  }

  module _ (m j k l : ℕ) (h : ReadsBoth mode left lr lx right rr rx (both.Read m j k l) lr' lx' rr' rx') where
    abbrev X : Reading
    X = read_into mode left lr lx

    abbrev Y : Reading
    Y = read_into mode right rr rx

    abbrev found : BothAccepted X Y m k
    found = both_accepted X Y m j k l h.says

    left_reads : read own left ≡ accepted found.lefts
    left_reads = sym same_left ∙ found.reads_left

    right_reads : read own right ≡ accepted found.rights
    right_reads = sym same_right ∙ found.reads_right

    left_rows_lem : (T : List ℕ) → T ≡ lr' → take (min m (length T / width) * width) T ≡ used_rows left found.lefts
    left_rows_lem T t = used_rows_lem mode n (length x) left found.lefts left_reads T (t ∙ h.left_table ∙ (λ i. record_image left (ln i) (beside (found.reads_left i) (found.reads_right i)))) m found.left_count

    right_rows_lem : (T : List ℕ) → T ≡ rr' → take (min k (length T / width) * width) T ≡ used_rows right found.rights
    right_rows_lem T t = used_rows_lem mode n (length x) right found.rights right_reads T (t ∙ h.right_table ∙ (λ i. record_image right (rn i) (beside (found.reads_right i) (found.reads_left i)))) k found.right_count

    left_reals_lem : lx' ≡ real_image (length lx) (accepted found.lefts)
    left_reals_lem = h.left_doubles ∙ (λ i. real_image (length lx) (beside (found.reads_left i) (found.reads_right i)))

    right_reals_lem : rx' ≡ real_image (length rx) (accepted found.rights)
    right_reals_lem = h.right_doubles ∙ (λ i. real_image (length rx) (beside (found.reads_right i) (found.reads_left i)))

    -- what is lent of each hand's tables, and what is answered of it
    pub hands_read : (T : List ℕ) → T ≡ lr' → (L : List ℕ) → L ≡ take (min m (length T / width) * width) T → (y : List Float) → y ≡ lx' → (U : List ℕ) → U ≡ rr' → (R : List ℕ) → R ≡ take (min k (length U / width) * width) U → (z : List Float) → z ≡ rx'
        → (r : Result ℕ Reason) (order' : List ℕ) → RowPlans (row_plan base B x left L y right R z) order r order' → (a : Reply) → a ≡ order_answer r → HandPlans mode n base B x left right order a order'
    hands_read T t L el y ey U u R er z ez r order' p a e =
        let left_rows : L ≡ used_rows left found.lefts = el ∙ left_rows_lem T t in
        let right_rows : R ≡ used_rows right found.rights = er ∙ right_rows_lem U u in
        let left_reals : y ≡ real_image (length lx) (accepted found.lefts) = ey ∙ left_reals_lem in
        let right_reals : z ≡ real_image (length rx) (accepted found.rights) = ez ∙ right_reals_lem in
        record {
          means =
              λ bs i reads_base rows_base reals_base.
              subst (λ (v : Reply). Means own base left right v order') (sym e)
              (planned_rows own (omega arith) base left right bs found.lefts found.rights reads_base left_reads right_reads i (length lx) (length rx) r order'
              (p.says ∙ (λ g. row_plan base (rows_base g) (reals_base g) left (left_rows g) (left_reals g) right (right_rows g) (right_reals g))));
          size = p.size;
        }

-- ---- the base's text

-- tables as long as those lent, but no longer than a reading can use
module _ (mode : Mode) (numbers reals : ℕ) (base left right : Bytes) (xs : List ℕ) (ys : List Float) (n : ℕ) (xn : length xs ≡ n) (f : n ≡ min numbers 11264) (g : length ys ≡ min reals 4096) (xs' : List ℕ) (ys' : List Float) where
  abbrev settings : Settings
  settings = settings_for mode numbers reals

  same_settings : settings_for mode (length xs) (length ys) ≡ settings
  same_settings = same_room mode numbers reals (length xs) (length ys) (xn ∙ f) g

  pub base_refused : (reason place : ℕ) → Reads mode base xs ys (reader.Refused reason place) xs' ys' → (order : List ℕ) → length order ≡ 2048 → Plans settings base left right (Refused scene.Base reason place) order
  base_refused reason place h order size = record {
    means =
        let e : read settings base ≡ reading.refused reason place = (λ i. read (sym same_settings i) base) ∙ refused_as (read_into mode base xs ys) reason place h.says in
        ap (λ (z : Reading). plan_read z (read settings left) (read settings right)) e;
    size = size;
  }

  -- what is lent of the base's tables
  pub base_read : (m k : ℕ) → Reads mode base xs ys (reader.Accepted m k) xs' ys' → (T : List ℕ) → T ≡ xs' → (B : List ℕ) → B ≡ take (min m (length T / width) * width) T → (x : List Float) → x ≡ ys'
      → (order order' : List ℕ) → length order ≡ 2048 → (r : Reply) → HandPlans mode n base B x left right order r order' → Plans settings base left right r order'
  base_read m k h T t B b x e order order' size r p =
      let a = accepted_as (read_into mode base xs ys) m k h.says in
      let long : length ys ≡ length x = sym (ap length (e ∙ h.doubles) ∙ reals_kept mode (length xs) (length ys) base) in
      let same : settings_for mode n (length x) ≡ settings = (λ i. settings_for mode (sym xn i) (sym long i)) ∙ same_settings in
      let reads : read (settings_for mode n (length x)) base ≡ accepted a.entries = (λ i. read (settings_for mode (sym xn i) (sym long i)) base) ∙ a.reads in
      record {
        means =
            subst (λ (u : Settings). Means u base left right r order') same
            (p.means a.entries (length ys) reads
            (b ∙ used_rows_lem mode (length xs) (length ys) base a.entries a.reads T (t ∙ h.table ∙ ap (record_image base (length xs)) a.reads) m a.primitives)
            (e ∙ h.doubles ∙ ap (real_image (length ys)) a.reads));
        size = p.size ∙ size;
      }
