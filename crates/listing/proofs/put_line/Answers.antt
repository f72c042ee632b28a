-- `listing::put_line` meets its contract.
use Rattle.buffer.proofs.PutLaws.{shown, shown_more, count}
use Rattle.fields.specs.Fields.{text_field, last_field}
use Rattle.listing.specs.Listing.{line_of}
use Rattle.listing.proofs.put_line.Goals as goal

pub returns : goal.returns
unfolding line_of
returns c =
    let a = c.args in
    let s = shown c.put_links-at.ensures.out_after c.put_links-at.ensures.value in
    let t = shown_more (text_field " name=" a.name.now) s c.put_text-at.ensures.out_after c.put_text-at.ensures.value in
    let u = shown_more (last_field " next=" a.next) t c.put_last.ensures.out_after c.put_last.ensures.value in
    record { out_after = u.text; value = count u }
