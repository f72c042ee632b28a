-- `joined_hands::holds` meets its contract.
use mathlib.Core.List.{List}
use mathlib.Core.Path.{◌≡◌, ap, sym, ◌∙◌}
use Prim.Native.Nat.{ℕ, ◌*◌, ◌/◌, ◌≤◌, min}
use native.Mathlib.Omega.{arith}
use lib.ListN.{length, take}
use lib.Seq.{length-take-le, take_at}
use Rattle.joined_hands.proofs.HandsLaws.{Again, hold_both, hold_none, read_again, rooms}
use Rattle.laws.proofs.ListLaws.{front_within}
use Rattle.pair.specs.Both.{both_of}
use Rattle.scene.specs.Record.{width}
use Rattle.joined_hands.proofs.holds.Goals as goal
use Rattle.joined_hands.proofs.holds.Goals.{After-first_records, After-first_records-in-Ok, After-read_both}

pub slice_bounds-read_both-end : goal.slice_bounds-read_both-end
slice_bounds-read_both-end c = let h : c.min-n.result ≤ 1024 * width = omega arith in sym (length-take-le _ _ h)

pub slice_bounds-read_both-end-2 : goal.slice_bounds-read_both-end-2
slice_bounds-read_both-end-2 c = let h : c.min-k.result ≤ 4096 = omega arith in sym (length-take-le _ _ h)

pub slice_bounds-read_both-end-3 : goal.slice_bounds-read_both-end-3
slice_bounds-read_both-end-3 c = let h : c.min-n.result ≤ 1024 * width = omega arith in sym (length-take-le _ _ h)

pub slice_bounds-read_both-end-4 : goal.slice_bounds-read_both-end-4
slice_bounds-read_both-end-4 c = let h : c.min-k.result ≤ 4096 = omega arith in sym (length-take-le _ _ h)

-- the tables that were lent come back as long as they were
kept-left-records : (c : After-read_both) → length c.read_both.new.left_records ≡ c.min-n.result
kept-left-records c = let h : c.min-n.result ≤ 1024 * width = omega arith in c.read_both.auto.left_records ∙ length-take-le _ _ h

kept-left-reals : (c : After-read_both) → length c.read_both.new.left_reals ≡ c.min-k.result
kept-left-reals c = let h : c.min-k.result ≤ 4096 = omega arith in c.read_both.auto.left_reals ∙ length-take-le _ _ h

kept-right-records : (c : After-read_both) → length c.read_both.new.right_records ≡ c.min-n.result
kept-right-records c = let h : c.min-n.result ≤ 1024 * width = omega arith in c.read_both.auto.right_records ∙ length-take-le _ _ h

kept-right-reals : (c : After-read_both) → length c.read_both.new.right_reals ≡ c.min-k.result
kept-right-reals c = let h : c.min-k.result ≤ 4096 = omega arith in c.read_both.auto.right_reals ∙ length-take-le _ _ h

again : (c : After-read_both) → let a = c.args in Again a.mode (length a.typed_records.now) (length a.typed_reals.now) a.left.now a.right.now (both_of c.read_both.result) c.read_both.new.left_records c.read_both.new.left_reals c.read_both.new.right_records c.read_both.new.right_reals
again c =
    let a = c.args in
    read_again a.mode (length a.typed_records.now) (length a.typed_reals.now) a.left.now _ _ a.right.now _ _ _ _ _ _ _
    (sym c.read_both.auto.left_records ∙ kept-left-records c ∙ c.min-n.ensures)
    (sym c.read_both.auto.left_reals ∙ kept-left-reals c ∙ c.min-k.ensures)
    (sym c.read_both.auto.right_records ∙ kept-right-records c ∙ c.min-n.ensures)
    (sym c.read_both.auto.right_reals ∙ kept-right-reals c ∙ c.min-k.ensures)
    c.read_both.ensures

pub slice_bounds-left_records-end-in-Ok : goal.slice_bounds-left_records-end-in-Ok
slice_bounds-left_records-end-in-Ok c = front_within c.read_both.new.left_records _ (kept-left-records (goal.at.slice_bounds-left_records-end-in-Ok c).After-read_both)

pub slice_bounds-first_records-end : goal.slice_bounds-first_records-end
slice_bounds-first_records-end c = sym (length-take-le _ _ (front_within c.read_both.new.left_records _ (kept-left-records (goal.at.slice_bounds-first_records-end c).After-read_both)))

pub slice_bounds-left_reals-end-in-Ok : goal.slice_bounds-left_reals-end-in-Ok
slice_bounds-left_reals-end-in-Ok c = front_within c.read_both.new.left_reals _ (kept-left-reals (goal.at.slice_bounds-left_reals-end-in-Ok c).After-read_both)

pub slice_bounds-holds_rows-end : goal.slice_bounds-holds_rows-end
slice_bounds-holds_rows-end c = sym (length-take-le _ _ (front_within c.read_both.new.left_reals _ (kept-left-reals (goal.at.slice_bounds-holds_rows-end c).After-read_both)))

pub slice_bounds-right_records-end-in-Ok : goal.slice_bounds-right_records-end-in-Ok
slice_bounds-right_records-end-in-Ok c = front_within c.read_both.new.right_records _ (kept-right-records (goal.at.slice_bounds-right_records-end-in-Ok c).After-read_both)

pub slice_bounds-first_records-end-in-Ok : goal.slice_bounds-first_records-end-in-Ok
slice_bounds-first_records-end-in-Ok c = sym (length-take-le _ _ (front_within c.read_both.new.right_records _ (kept-right-records (goal.at.slice_bounds-first_records-end-in-Ok c).After-read_both)))

pub slice_bounds-right_reals-end-in-Ok : goal.slice_bounds-right_reals-end-in-Ok
slice_bounds-right_reals-end-in-Ok c = front_within c.read_both.new.right_reals _ (kept-right-reals (goal.at.slice_bounds-right_reals-end-in-Ok c).After-read_both)

pub slice_bounds-holds_rows-end-in-Ok : goal.slice_bounds-holds_rows-end-in-Ok
slice_bounds-holds_rows-end-in-Ok c = sym (length-take-le _ _ (front_within c.read_both.new.right_reals _ (kept-right-reals (goal.at.slice_bounds-holds_rows-end-in-Ok c).After-read_both)))

-- the first records of both hands are those of their tables
lefts-first : (c : After-first_records) → let T = c.read_both.new.left_records in c.first_records.result.now ≡ take (min c.in-Ok.counts.left.primitives (length T / width) * width) T
lefts-first c = let h : c.min-n.result ≤ 1024 * width = omega arith in c.first_records.ensures ∙ ap (λ (xs : List ℕ). take (min c.in-Ok.counts.left.primitives (length xs / width) * width) xs) (take_at c.read_both.new.left_records _ _ (c.read_both.auto.left_records ∙ length-take-le _ _ h))

rights-first : (c : After-first_records-in-Ok) → let T = c.read_both.new.right_records in c.first_records-in-Ok.result.now ≡ take (min c.in-Ok.counts.right.primitives (length T / width) * width) T
rights-first c = let h : c.min-n.result ≤ 1024 * width = omega arith in c.first_records-in-Ok.ensures ∙ ap (λ (xs : List ℕ). take (min c.in-Ok.counts.right.primitives (length xs / width) * width) xs) (take_at c.read_both.new.right_records _ _ (c.read_both.auto.right_records ∙ length-take-le _ _ h))

pub holds_rows-requires : goal.holds_rows-requires
holds_rows-requires c =
    let lefts : length c.read_both.new.left_records ≤ 1024 * width = omega (arith, kept-left-records (goal.at.holds_rows-requires c).After-read_both) in
    let rights : length c.read_both.new.right_records ≤ 1024 * width = omega (arith, kept-right-records (goal.at.holds_rows-requires c).After-read_both) in
    rooms _ _ c.read_both.new.left_records c.read_both.new.right_records _ _ lefts rights (lefts-first (goal.at.holds_rows-requires c).After-first_records) (rights-first (goal.at.holds_rows-requires c).After-first_records-in-Ok)

pub returns-in-Err : goal.returns-in-Err
returns-in-Err c =
    let a = c.args in
    hold_none a.mode a.left.now a.right.now a.typed.now a.typed_records.now a.typed_reals.now a.count a.order.now _ _ _ _ _ (again (goal.at.returns-in-Err c).After-read_both) _ _ _ _ (ap both_of c.in-Err.is)

pub returns-in-Ok : goal.returns-in-Ok
returns-in-Ok c =
    let a = c.args in
    hold_both a.mode a.left.now a.right.now a.typed.now a.typed_records.now a.typed_reals.now a.count a.order.now _ _ _ _ _ (again (goal.at.returns-in-Ok c).After-read_both) _ _ _ _ (ap both_of c.in-Ok.is) _ _ _ (lefts-first (goal.at.returns-in-Ok c).After-first_records) (rights-first (goal.at.returns-in-Ok c).After-first_records-in-Ok) c.first_records-in-Ok-2.ensures _ _
    (take_at c.read_both.new.left_reals _ _ (kept-left-reals (goal.at.returns-in-Ok c).After-read_both))
    (take_at c.read_both.new.right_reals _ _ (kept-right-reals (goal.at.returns-in-Ok c).After-read_both))
    _ c.holds_rows.ensures
