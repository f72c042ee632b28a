-- `record_text::put_records` meets its contract.
use Rattle.std.proofs.Common.{◌≡◌, arith}
use Rattle.lines.proofs.PutsLaws.{puts_none, puts_more, puts_as, puts_length}
use Rattle.record_text.proofs.RowLaws.{one_record}
use Rattle.record_text.specs.RecordText.{record_texts}
use Rattle.record_text.proofs.put_records.Goals as goal

pub loop-n-init : goal.loop-n-init
unfolding record_texts
loop-n-init c = puts_none _ _

pub loop-n-preserved : goal.loop-n-preserved
loop-n-preserved c =
    let l = c.loop-n in
    let a = c.args in
    puts_as _ (one_record a.text.now a.records.now l.n) (puts_more (record_texts a.text.now a.records.now l.n) _ l.invariant c.put_record-end.ensures)

pub shape_of-out : goal.shape_of-out
shape_of-out c = puts_length c.loop-n.invariant

pub returns : goal.returns
returns c =
    let l = c.loop-n in
    let e : l.n ≡ c.args.count = omega arith in
    rw (← e) l.invariant
