-- `sorter::put_sorted` meets its contract.
use mathlib.Core.List.{List}
use mathlib.Core.Path.{◌≡◌, sym, ◌∙◌, subst}
use Prim.Native.Nat.{ℕ, ◌≤◌}
use native.Mathlib.Omega.{arith}
use borrow.Author.Rules.{rules}
use lib.ListN.{length}
use lib.Seq.{length-take-le, take_at}
use Rattle.blocks.specs.Code.{Cuts}
use Rattle.laws.proofs.ListLaws.{front_within}
use Rattle.sorter.proofs.AnswerLaws.{sorted_refused, sorted_written}
use Rattle.block_text.specs.BlockText.{WritesBlocks}
use Rattle.sorter.specs.Code.{order_in}
use Rattle.writer.specs.Answer.{answer_of}
use Rattle.sorter.proofs.put_sorted.Goals as goal
use Rattle.sorter.proofs.put_sorted.Goals.{After-block_ends}

pub slice_bounds-block_ends-end : goal.slice_bounds-block_ends-end
slice_bounds-block_ends-end c = let h : c.min-many.result ≤ 1024 = omega arith in sym (length-take-le _ _ h)

-- the part that was lent comes back as long as it was
kept-ends : (c : After-block_ends) → length c.block_ends.new.ends ≡ c.min-many.result
kept-ends c = let h : c.min-many.result ≤ 1024 = omega arith in c.block_ends.auto.ends ∙ length-take-le _ _ h

lent : (c : After-block_ends) → let a = c.args in Cuts a.text.now a.records.now c.min-many.result c.block_ends.result c.block_ends.new.ends
lent c =
    let h : c.min-many.result ≤ 1024 = omega arith in
    let a = c.args in
    subst (λ (k : ℕ). Cuts a.text.now a.records.now k c.block_ends.result c.block_ends.new.ends) (length-take-le _ _ h) c.block_ends.ensures

pub slice_bounds-ends-end-2 : goal.slice_bounds-ends-end-2
slice_bounds-ends-end-2 c = front_within c.block_ends.new.ends _ (kept-ends (goal.at.slice_bounds-ends-end-2 c).After-block_ends)

pub slice_bounds-write_cut-end : goal.slice_bounds-write_cut-end
slice_bounds-write_cut-end c = sym (length-take-le _ _ (front_within c.block_ends.new.ends _ (kept-ends (goal.at.slice_bounds-write_cut-end c).After-block_ends)))

pub returns-in_err-block_ends : goal.returns-in_err-block_ends
returns-in_err-block_ends c =
    let a = c.args in
    sorted_refused a.text.now a.records.now a.count a.out.now c.min-many.ensures (lent (goal.at.returns-in_err-block_ends c).After-block_ends) _ c.in_err-block_ends.was _ (search rules)

pub returns : goal.returns
returns c =
    let a = c.args in
    sorted_written a.text.now a.records.now a.count a.out.now c.min-many.ensures (lent (goal.at.returns c).After-block_ends) _ c.in_ok-block_ends.was
    (subst (λ (E : List ℕ). WritesBlocks a.text.now E (order_in a.text.now a.records.now (length E)) a.out.now (answer_of c.write_cut.result) c.write_cut.new.out) (take_at c.block_ends.new.ends _ _ (kept-ends (goal.at.returns c).After-block_ends)) c.write_cut.ensures)
