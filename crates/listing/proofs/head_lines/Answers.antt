-- `listing::head_lines` meets its contract.
use mathlib.Core.List.{◌++◌}
use borrow.Author.Tests.{ne_eqb}
use Rattle.buffer.proofs.PutLaws.{shown, shown_more, count}
use Rattle.fields.specs.Fields.{field, last_field}
use Rattle.listing.specs.Listing.{head_lines}
use Rattle.listing.proofs.head_lines.Goals as goal

pub returns-then-reason-eq0 : goal.returns-then-reason-eq0
unfolding head_lines
returns-then-reason-eq0 c =
    let a = c.args in
    let s = shown c.put_mode-at.ensures.out_after c.put_mode-at.ensures.value in
    let t = shown_more (field "primitives=" a.primitives ++ last_field " reals=" a.reals) s c.put_pair.ensures.out_after c.put_pair.ensures.value in
    rw c.if-reason-eq0.true (record { out_after = t.text; value = count t })

pub returns : goal.returns
unfolding head_lines
returns c =
    let s = shown c.put_pair-2.ensures.out_after c.put_pair-2.ensures.value in
    rw (ne_eqb _ 0 c.if-reason-eq0.false) (record { out_after = s.text; value = count s })
