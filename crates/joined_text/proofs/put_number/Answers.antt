-- `joined_text::put_number` meets its contract.
use native.Mathlib.Omega.{arith}
use Rattle.joined_text.proofs.JoinedTextLaws.{text_left, text_right}
use Rattle.lines.proofs.PutsLaws.{puts_as, puts_length}
use Rattle.joined_text.proofs.put_number.Goals as goal

pub shape_of-out-then-n-split : goal.shape_of-out-then-n-split
shape_of-out-then-n-split c = puts_length c.put_record.ensures

pub returns-then-n-split : goal.returns-then-n-split
returns-then-n-split c =
    let a = c.args in
    puts_as _ (text_right a.left.now a.left_records.now a.right.now a.right_records.now a.n c.if-n-split.true) c.put_record.ensures

pub shape_of-out : goal.shape_of-out
shape_of-out c = puts_length c.put_record-2.ensures

pub returns : goal.returns
returns c =
    let a = c.args in
    puts_as _ (text_left a.left.now a.left_records.now a.right.now a.right_records.now a.n (omega (arith, c.if-n-split.false))) c.put_record-2.ensures
