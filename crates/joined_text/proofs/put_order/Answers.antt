-- `joined_text::put_order` meets its contract.
use native.Mathlib.Omega.{arith}
use lib.ListN.{get_or}
use Rattle.joined_text.proofs.JoinedTextLaws.{no_numbers, one_number}
use Rattle.joined_text.specs.JoinedText.{number_text, order_text}
use Rattle.lines.proofs.PutsLaws.{all_put, none_yet, puts_length, some_more}
use Rattle.joined_text.proofs.put_order.Goals as goal

pub loop-n-init : goal.loop-n-init
loop-n-init c =
    let a = c.args in
    none_yet a.out.now _ (order_text a.left.now a.left_records.now a.right.now a.right_records.now a.order.now)

pub loop-n-preserved : goal.loop-n-preserved
loop-n-preserved c =
    let a = c.args in
    let l = c.loop-n in
    some_more (number_text a.left.now a.left_records.now a.right.now a.right_records.now (get_or a.order.now l.n-index 0)) _ (one_number a.left.now a.left_records.now a.right.now a.right_records.now a.order.now l.n-index (omega arith)) l.invariant c.put_number-end.ensures

pub shape_of-out : goal.shape_of-out
shape_of-out c = puts_length c.loop-n.invariant.puts

pub returns : goal.returns
returns c =
    let a = c.args in
    let l = c.loop-n in
    all_put (no_numbers a.left.now a.left_records.now a.right.now a.right_records.now a.order.now l.n-index (omega arith)) l.invariant
