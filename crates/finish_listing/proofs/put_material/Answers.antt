-- `finish_listing::put_material` meets its contract.
use mathlib.Core.List.{[]}
use mathlib.Core.Path.{ap, ◌∙◌}
use Rattle.buffer.proofs.PutLaws.{shown, shown_as, shown_more}
use Rattle.fields.specs.Fields.{field, text_field}
use Rattle.finish_listing.specs.FinishLine.{material_fields, material_of}
use Rattle.keys.specs.Key.{times}
use Rattle.keys.specs.Rows.{scene_rows}
use Rattle.laws.specs.Bytes.{Bytes}
use Rattle.finish_listing.proofs.put_material.Goals as goal

pub returns : goal.returns
unfolding material_of
returns c =
    let a = c.args in
    let name = c.name_of-name.ensures in
    let s = shown c.put_field-behind.ensures.out_after c.put_field-behind.ensures.value in
    let t = shown_more (text_field " finish_name=" c.name_of-name.result.now) s c.put_text-behind.ensures.out_after c.put_text-behind.ensures.value in
    let u = shown_more (field " finish_line=" c.field.result) t c.put_field-behind-2.ensures.out_after c.put_field-behind-2.ensures.value in
    let v = shown_more (field " nth=" c.key_nth.result) u c.put_field-behind-3.ensures.out_after c.put_field-behind-3.ensures.value in
    let x = shown_more (field " of=" c.times-of.result) v c.put_field.ensures.out_after c.put_field.ensures.value in
    let of = c.times-of.ensures ∙ ap (λ (w : Bytes). times w (scene_rows a.text.now a.records.now [])) name in
    let y = shown_as x (λ i. material_fields a.m (name i) (c.field.ensures i) (c.key_nth.ensures i) (of i)) in
    record { out_after = y.text; value = y.end }
