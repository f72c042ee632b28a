-- `save_lines::key_line` meets its contract.
use Rattle.buffer.proofs.PutLaws.{shown, shown_more, count}
use Rattle.fields.specs.Fields.{field}
use Rattle.save_lines.specs.Lines.{key_line, state_field}
use Rattle.save_lines.proofs.key_line.Goals as goal

pub returns : goal.returns
unfolding key_line
returns c =
    let a = c.args in
    let s = shown c.put_text-at.ensures.out_after c.put_text-at.ensures.value in
    let t = shown_more (field " nth=" a.nth) s c.put_field-at.ensures.out_after c.put_field-at.ensures.value in
    let u = shown_more (state_field a.state) t c.put_state.ensures.out_after c.put_state.ensures.value in
    record { out_after = u.text; value = count u }
