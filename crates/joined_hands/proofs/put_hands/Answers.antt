-- `joined_hands::put_hands` meets its contract.
use mathlib.Core.List.{List}
use mathlib.Core.Path.{◌≡◌, ap, sym, ◌∙◌}
use Prim.Native.Nat.{ℕ, ◌*◌, ◌/◌, ◌≤◌, min}
use native.Mathlib.Omega.{arith}
use lib.ListN.{length, take}
use lib.Seq.{length-take-le, take_at}
use Rattle.joined_hands.proofs.HandsLaws.{Again, put_both, put_none, read_again}
use Rattle.laws.proofs.ListLaws.{front_within}
use Rattle.lines.proofs.PutsLaws.{puts_length}
use Rattle.pair.specs.Both.{both_of}
use Rattle.scene.specs.Record.{width}
use Rattle.joined_hands.proofs.put_hands.Goals as goal
use Rattle.joined_hands.proofs.put_hands.Goals.{After-read_both}

pub slice_bounds-read_both-end : goal.slice_bounds-read_both-end
slice_bounds-read_both-end c = let h : c.min-n.result ≤ 1024 * width = omega arith in sym (length-take-le _ _ h)

pub slice_bounds-read_both-end-2 : goal.slice_bounds-read_both-end-2
slice_bounds-read_both-end-2 c = let h : c.min-k.result ≤ 4096 = omega arith in sym (length-take-le _ _ h)

pub slice_bounds-read_both-end-3 : goal.slice_bounds-read_both-end-3
slice_bounds-read_both-end-3 c = let h : c.min-n.result ≤ 1024 * width = omega arith in sym (length-take-le _ _ h)

pub slice_bounds-read_both-end-4 : goal.slice_bounds-read_both-end-4
slice_bounds-read_both-end-4 c = let h : c.min-k.result ≤ 4096 = omega arith in sym (length-take-le _ _ h)

-- the tables that were lent come back as long as they were
kept-left-records : (c : After-read_both) → length c.read_both.new.left_records ≡ c.min-n.result
kept-left-records c = let h : c.min-n.result ≤ 1024 * width = omega arith in c.read_both.auto.left_records ∙ length-take-le _ _ h

kept-left-reals : (c : After-read_both) → length c.read_both.new.left_reals ≡ c.min-k.result
kept-left-reals c = let h : c.min-k.result ≤ 4096 = omega arith in c.read_both.auto.left_reals ∙ length-take-le _ _ h

kept-right-records : (c : After-read_both) → length c.read_both.new.right_records ≡ c.min-n.result
kept-right-records c = let h : c.min-n.result ≤ 1024 * width = omega arith in c.read_both.auto.right_records ∙ length-take-le _ _ h

kept-right-reals : (c : After-read_both) → length c.read_both.new.right_reals ≡ c.min-k.result
kept-right-reals c = let h : c.min-k.result ≤ 4096 = omega arith in c.read_both.auto.right_reals ∙ length-take-le _ _ h

again : (c : After-read_both) → let a = c.args in Again a.mode a.numbers a.reals a.left.now a.right.now (both_of c.read_both.result) c.read_both.new.left_records c.read_both.new.left_reals c.read_both.new.right_records c.read_both.new.right_reals
again c =
    let a = c.args in
    read_again a.mode a.numbers a.reals a.left.now _ _ a.right.now _ _ _ _ _ _ _
    (sym c.read_both.auto.left_records ∙ kept-left-records c ∙ c.min-n.ensures)
    (sym c.read_both.auto.left_reals ∙ kept-left-reals c ∙ c.min-k.ensures)
    (sym c.read_both.auto.right_records ∙ kept-right-records c ∙ c.min-n.ensures)
    (sym c.read_both.auto.right_reals ∙ kept-right-reals c ∙ c.min-k.ensures)
    c.read_both.ensures

pub slice_bounds-left_records-end-in-Ok : goal.slice_bounds-left_records-end-in-Ok
slice_bounds-left_records-end-in-Ok c = front_within c.read_both.new.left_records _ (kept-left-records (goal.at.slice_bounds-left_records-end-in-Ok c).After-read_both)

pub slice_bounds-first_records-end : goal.slice_bounds-first_records-end
slice_bounds-first_records-end c = sym (length-take-le _ _ (front_within c.read_both.new.left_records _ (kept-left-records (goal.at.slice_bounds-first_records-end c).After-read_both)))

pub slice_bounds-right_records-end-in-Ok : goal.slice_bounds-right_records-end-in-Ok
slice_bounds-right_records-end-in-Ok c = front_within c.read_both.new.right_records _ (kept-right-records (goal.at.slice_bounds-right_records-end-in-Ok c).After-read_both)

pub slice_bounds-first_records-end-in-Ok : goal.slice_bounds-first_records-end-in-Ok
slice_bounds-first_records-end-in-Ok c = sym (length-take-le _ _ (front_within c.read_both.new.right_records _ (kept-right-records (goal.at.slice_bounds-first_records-end-in-Ok c).After-read_both)))

pub returns-in-Err : goal.returns-in-Err
returns-in-Err c =
    let a = c.args in
    put_none a.mode a.numbers a.reals a.left.now a.right.now _ _ _ _ _ (again (goal.at.returns-in-Err c).After-read_both) a.order.now a.out.now _ _ _ _ (ap both_of c.in-Err.is)

pub shape_of-out : goal.shape_of-out
shape_of-out c = puts_length c.put_order.ensures

pub returns-in-Ok : goal.returns-in-Ok
returns-in-Ok c =
    let a = c.args in
    let m = c.in-Ok.counts.left.primitives in
    let n = c.in-Ok.counts.right.primitives in
    let f = c.first_records.ensures ∙ ap (λ (xs : List ℕ). take (min m (length xs / width) * width) xs) (take_at c.read_both.new.left_records _ _ (kept-left-records (goal.at.returns-in-Ok c).After-read_both)) in
    let g = c.first_records-in-Ok.ensures ∙ ap (λ (xs : List ℕ). take (min n (length xs / width) * width) xs) (take_at c.read_both.new.right_records _ _ (kept-right-records (goal.at.returns-in-Ok c).After-read_both)) in
    put_both a.mode a.numbers a.reals a.left.now a.right.now _ _ _ _ _ (again (goal.at.returns-in-Ok c).After-read_both) m _ n _ (ap both_of c.in-Ok.is) _ _ f g a.order.now a.out.now _ _ c.put_order.ensures
