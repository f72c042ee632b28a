-- `buffer::put_field` meets its contract.
use Rattle.buffer.proofs.PutLaws.{shown, shown_more}
use Rattle.buffer.specs.Decimal.{decimal}
use Rattle.buffer.proofs.put_field.Goals as goal

pub returns : goal.returns
returns c =
    let a = c.args in
    let s = shown c.put_bytes-middle.ensures.out_after c.put_bytes-middle.ensures.value in
    let t = shown_more (decimal a.n) s c.put_decimal.ensures.out_after c.put_decimal.ensures.value in
    record { out_after = t.text; value = t.end }
