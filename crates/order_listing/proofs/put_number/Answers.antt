-- `order_listing::put_number` meets its contract.
use Rattle.buffer.proofs.DecimalLaws.{decimal_length}
use Rattle.buffer.proofs.PutLaws.{front}
use Rattle.buffer.specs.Decimal.{decimal}
use Rattle.laws.specs.Bytes.{part}
use Rattle.lines.proofs.PutsLaws.{puts_as, puts_more}
use lib.Dec.{lit<}
use lib.ListN.{replicate}
use mathlib.Core.Path.{◌∙◌}
use native.Mathlib.Omega.{arith}
use Rattle.order_listing.proofs.put_number.Goals as goal

pub returns : goal.returns
returns c =
    let a = c.args in
    let few = decimal_length 20 a.n (omega (arith, c.ranges)) (lit< tt) in
    let spelt = c.part.ensures ∙ (λ i. part (c.put_decimal-len.ensures.out_after i) 0 (c.put_decimal-len.ensures.value i)) ∙ front (replicate 20 48) (decimal a.n) few in
    puts_more a.label.now (decimal a.n) c.put-behind_label.ensures (puts_as (decimal a.n) spelt c.put.ensures)
