-- `fields::put_text` meets its contract.
use Rattle.buffer.proofs.PutLaws.{shown, shown_more}
use Rattle.fields.proofs.put_text.Goals as goal

pub returns : goal.returns
returns c =
    let a = c.args in
    let s = shown c.put_bytes-middle.ensures.out_after c.put_bytes-middle.ensures.value in
    let t = shown_more a.text.now s c.put_bytes.ensures.out_after c.put_bytes.ensures.value in
    record { out_after = t.text; value = t.end }
