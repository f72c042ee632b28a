use Rattle.linker.proofs.TableLaws.{in_none, in_one}
use Rattle.linker.proofs.enter_row.Goals as goal

-- src/lib.rt:91:9
pub returns-then-records-count : goal.returns-then-records-count
returns-then-records-count c =
    let a = c.args in
    let at-if1 = c.if-records-count in
    let r = in_none a.text.now a.records.now a.index.now a.count a.d a.line at-if1.true in record { value = r.0; records_after = r.1.0; index_after = r.1.1 }

-- src/lib.rt:78:1
pub returns : goal.returns
returns c =
    let a = c.args in
    let at-if1 = c.if-records-count in
    let at-earlier = c.earlier-found in
    let at-narrow = c.narrow-number in
    let at-tell-next = c.tell_next in
    let at-put-row = c.put_row in
    let at-put = c.put in
    let r = in_one a.text.now a.records.now a.index.now a.count a.d a.line at-if1.false at-earlier.ensures at-narrow.ensures at-tell-next.ensures at-put-row.ensures at-put.ensures in record { value = r.0; records_after = r.1.0; index_after = r.1.1 }
