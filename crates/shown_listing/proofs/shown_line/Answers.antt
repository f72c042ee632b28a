-- `shown_listing::shown_line` meets its contract.
use mathlib.Core.List.{◌++◌}
use Rattle.buffer.proofs.PutLaws.{shown, shown_as, shown_more, count}
use Rattle.fields.specs.Fields.{field, text_field}
use Rattle.laws.specs.Bytes.{bytes}
use Rattle.shown_listing.specs.ShownLine.{joined, shown_line}
use Rattle.shown_listing.proofs.shown_line.Goals as goal

pub returns : goal.returns
unfolding shown_line
returns c =
    let a = c.args in
    let name = c.name_of in
    let s = shown c.put_field-at.ensures.out_after c.put_field-at.ensures.value in
    let t = shown_more (text_field " name=" name.result.now) s c.put_text-at.ensures.out_after c.put_text-at.ensures.value in
    let u = shown_more (bytes " shows=") t c.put_bytes-at.ensures.out_after c.put_bytes-at.ensures.value in
    let v = shown_more (joined 0 a.list.now) u c.put_list-at.ensures.out_after c.put_list-at.ensures.value in
    let w = shown_more (bytes "\n") v c.put_bytes.ensures.out_after c.put_bytes.ensures.value in
    let x = shown_as w (λ i. field "no=" a.n ++ text_field " name=" (name.ensures i) ++ bytes " shows=" ++ joined 0 a.list.now ++ bytes "\n") in
    record { out_after = x.text; value = count x }
