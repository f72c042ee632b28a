-- `listing::put_links` meets its contract.
use Rattle.buffer.proofs.PutLaws.{shown, shown_more}
use Rattle.fields.specs.Fields.{field, kind_field}
use Rattle.listing.proofs.put_links.Goals as goal

pub returns : goal.returns
returns c =
    let a = c.args in
    let s = shown c.put_field-at.ensures.out_after c.put_field-at.ensures.value in
    let t = shown_more (field " mod=" a.modifier) s c.put_field-at-2.ensures.out_after c.put_field-at-2.ensures.value in
    let u = shown_more (field " alias=" a.target) t c.put_field-at-3.ensures.out_after c.put_field-at-3.ensures.value in
    let v = shown_more (kind_field a.kind) u c.put_kind.ensures.out_after c.put_kind.ensures.value in
    record { out_after = v.text; value = v.end }
