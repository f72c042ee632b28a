-- `sorter::write_cut` meets its contract.
use mathlib.Core.Path.{◌≡◌, sym, ◌∙◌}
use Prim.Native.Nat.{◌≤◌}
use native.Mathlib.Omega.{arith}
use lib.ListN.{length}
use lib.Seq.{length-take-le, take_at}
use Rattle.laws.proofs.ListLaws.{front_within}
use Rattle.sorter.proofs.OrderLaws.{cut_written}
use Rattle.sorter.proofs.write_cut.Goals as goal
use Rattle.sorter.proofs.write_cut.Goals.{After-classes, After-order}

pub slice_bounds-classes-end-2 : goal.slice_bounds-classes-end-2
slice_bounds-classes-end-2 c = let h : c.min-count.result ≤ 1024 = omega arith in sym (length-take-le _ _ h)

-- the parts that were lent come back as long as they were
kept-classes : (c : After-classes) → length c.classes.new.classes ≡ c.min-count.result
kept-classes c = let h : c.min-count.result ≤ 1024 = omega arith in c.classes.auto.classes ∙ length-take-le _ _ h

pub slice_bounds-classes-end-3 : goal.slice_bounds-classes-end-3
slice_bounds-classes-end-3 c = front_within c.classes.new.classes _ (kept-classes (goal.at.slice_bounds-classes-end-3 c).After-classes)

pub slice_bounds-order-end : goal.slice_bounds-order-end
slice_bounds-order-end c = sym (length-take-le _ _ (front_within c.classes.new.classes _ (kept-classes (goal.at.slice_bounds-order-end c).After-classes)))

pub slice_bounds-order-end-3 : goal.slice_bounds-order-end-3
slice_bounds-order-end-3 c = let h : c.min-count.result ≤ 1024 = omega arith in sym (length-take-le _ _ h)

kept-order : (c : After-order) → length c.order.new.order ≡ c.min-count.result
kept-order c = let h : c.min-count.result ≤ 1024 = omega arith in c.order.auto.order ∙ length-take-le _ _ h

pub slice_bounds-order-end-4 : goal.slice_bounds-order-end-4
slice_bounds-order-end-4 c = front_within c.order.new.order _ (kept-order (goal.at.slice_bounds-order-end-4 c).After-order)

pub slice_bounds-write_blocks-end : goal.slice_bounds-write_blocks-end
slice_bounds-write_blocks-end c = sym (length-take-le _ _ (front_within c.order.new.order _ (kept-order (goal.at.slice_bounds-write_blocks-end c).After-order)))

pub returns : goal.returns
returns c =
    let a = c.args in
    let h : c.min-count.result ≤ 1024 = omega arith in
    cut_written a.text.now a.records.now a.ends.now a.out.now c.min-count.ensures (length-take-le _ _ h) c.classes.ensures (take_at c.classes.new.classes _ _ (kept-classes (goal.at.returns c).After-classes)) (length-take-le _ _ h)
    c.order.ensures (take_at c.order.new.order _ _ (kept-order (goal.at.returns c).After-order)) c.write_blocks.ensures
