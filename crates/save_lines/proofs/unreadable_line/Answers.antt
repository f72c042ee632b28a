-- `save_lines::unreadable_line` meets its contract.
use Rattle.buffer.proofs.PutLaws.{shown, shown_more, count}
use Rattle.laws.specs.Bytes.{bytes}
use Rattle.save_lines.specs.Lines.{unreadable_line}
use Rattle.save_lines.proofs.unreadable_line.Goals as goal

pub returns : goal.returns
unfolding unreadable_line
returns c =
    let s = shown c.put_scene-at.ensures.out_after c.put_scene-at.ensures.value in
    let t = shown_more (bytes " unreadable\n") s c.put_bytes.ensures.out_after c.put_bytes.ensures.value in
    record { out_after = t.text; value = count t }
