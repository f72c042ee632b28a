-- `finish_listing::finish_line` meets its contract.
use Rattle.buffer.proofs.PutLaws.{shown, shown_more, count}
use Rattle.fields.specs.Fields.{last_field}
use Rattle.finish_listing.specs.FinishLine.{finish_line, material_of}
use Rattle.finish_listing.proofs.finish_line.Goals as goal

pub returns : goal.returns
unfolding finish_line
returns c =
    let a = c.args in
    let s = shown c.put_surface-at.ensures.out_after c.put_surface-at.ensures.value in
    let t = shown_more (material_of a.text.now a.records.now a.m) s c.put_material-at.ensures.out_after c.put_material-at.ensures.value in
    let u = shown_more (last_field " links=" a.links) t c.put_last.ensures.out_after c.put_last.ensures.value in
    record { out_after = u.text; value = count u }
