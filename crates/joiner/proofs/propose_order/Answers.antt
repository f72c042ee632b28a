-- `joiner::propose_order` meets its contract.
use mathlib.Core.Path.{refl, sym}
use Prim.Native.Nat.{◌≤◌}
use native.Mathlib.Omega.{arith}
use lib.Seq.{length-take-le}
use Rattle.join_answer.proofs.AnswerLaws.{refuses}
use Rattle.joiner.proofs.OrderLaws.{order_long, order_read}
use Rattle.joiner.proofs.propose_order.Goals as goal

pub returns-then-end : goal.returns-then-end
returns-then-end c =
    let a = c.args in
    let e = c.refuse.ensures in
    order_long a.mode a.left.now a.right.now a.order.now a.records.now a.reals.now a.out.now refl c.put_hands-end.ensures c.if-end.true (refuses _ (rw c.refusal_of.ensures at e.value) e.records_after e.reals_after e.out_after)

pub slice_bounds-read_proposed-end : goal.slice_bounds-read_proposed-end
slice_bounds-read_proposed-end c =
    let p = c.put_hands-end in
    let l : c.min-at.result ≤ 65536 = omega (arith, c.min-at.ensures) in
    sym (length-take-le _ _ (omega (arith, l, p.ensures.size)))

pub returns : goal.returns
returns c =
    let a = c.args in
    order_read a.mode a.left.now a.right.now a.order.now a.records.now a.reals.now a.out.now refl c.put_hands-end.ensures c.if-end.false _ c.min-at.ensures _ refl c.read_proposed.ensures
