-- `save_lines::refusal_line` meets its contract.
use Rattle.buffer.proofs.PutLaws.{shown, shown_more, count}
use Rattle.fields.specs.Fields.{field, last_field}
use Rattle.save_lines.specs.Lines.{refusal_line}
use Rattle.save_lines.proofs.refusal_line.Goals as goal

pub returns : goal.returns
unfolding refusal_line
returns c =
    let a = c.args in
    let s = shown c.put_scene-at.ensures.out_after c.put_scene-at.ensures.value in
    let t = shown_more (field " refused=" a.reason) s c.put_field-at.ensures.out_after c.put_field-at.ensures.value in
    let u = shown_more (last_field " place=" a.place) t c.put_last.ensures.out_after c.put_last.ensures.value in
    record { out_after = u.text; value = count u }
