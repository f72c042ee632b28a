-- `fields::put_last` meets its contract.
use Rattle.buffer.proofs.PutLaws.{shown, shown_more}
use Rattle.laws.specs.Bytes.{bytes}
use Rattle.fields.proofs.put_last.Goals as goal

pub returns : goal.returns
returns c =
    let s = shown c.put_field-middle.ensures.out_after c.put_field-middle.ensures.value in
    let t = shown_more (bytes "\n") s c.put_bytes.ensures.out_after c.put_bytes.ensures.value in
    record { out_after = t.text; value = t.end }
