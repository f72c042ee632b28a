-- `order_listing::pair_line` meets its contract.
use Rattle.fields.specs.Fields.{field}
use Rattle.lines.proofs.PutsLaws.{puts_as, puts_more}
use Rattle.order_listing.proofs.LineLaws.{pair_is}
use Rattle.order_listing.specs.OrderLine.{order_text}
use Rattle.order_listing.specs.Told.{told}
use mathlib.Core.List.{◌++◌}
use Rattle.order_listing.proofs.pair_line.Goals as goal

pub returns : goal.returns
returns c =
    let a = c.args in
    puts_as _ (pair_is a.text.now a.records.now a.first a.second (told a.order))
    (puts_more (field "first=" a.first ++ field " second=" a.second) (order_text a.text.now a.records.now (told a.order)) (puts_more (field "first=" a.first) (field " second=" a.second) c.put_number-behind_first.ensures c.put_number-behind_second.ensures) c.put_order.ensures)
