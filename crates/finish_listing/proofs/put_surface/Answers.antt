-- `finish_listing::put_surface` meets its contract.
use Rattle.buffer.proofs.PutLaws.{shown, shown_as, shown_more}
use Rattle.fields.specs.Fields.{field, kind_field, text_field}
use Rattle.finish_listing.specs.FinishLine.{surface_fields, surface_of}
use Rattle.scene.specs.Record.{record_in}
use Rattle.finish_listing.proofs.put_surface.Goals as goal

pub returns : goal.returns
unfolding surface_of record_in
returns c =
    let a = c.args in
    let s = shown c.put_field-at.ensures.out_after c.put_field-at.ensures.value in
    let t = shown_more (field " line=" c.field.result) s c.put_field-at-2.ensures.out_after c.put_field-at-2.ensures.value in
    let u = shown_more (kind_field c.field-2.result) t c.put_kind-at.ensures.out_after c.put_kind-at.ensures.value in
    let v = shown_more (text_field " name=" c.name_of.result.now) u c.put_text.ensures.out_after c.put_text.ensures.value in
    let w = shown_as v (λ i. surface_fields a.n (c.field.ensures i) (c.field-2.ensures i) (c.name_of.ensures i)) in
    record { out_after = w.text; value = w.end }
