-- `listing::put_pair` meets its contract.
use mathlib.Core.List.{◌++◌}
use Rattle.buffer.proofs.PutLaws.{shown, shown_more}
use Rattle.buffer.specs.Decimal.{decimal}
use Rattle.laws.specs.Bytes.{bytes}
use Rattle.listing.proofs.put_pair.Goals as goal

pub returns : goal.returns
returns c =
    let a = c.args in
    let s = shown c.put_field-behind_first.ensures.out_after c.put_field-behind_first.ensures.value in
    let t = shown_more (a.second.now ++ decimal a.m ++ bytes "\n") s c.put_last.ensures.out_after c.put_last.ensures.value in
    record { out_after = t.text; value = t.end }
