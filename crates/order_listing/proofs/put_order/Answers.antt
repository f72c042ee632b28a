-- `order_listing::put_order` meets its contract.
use Rattle.fields.specs.Fields.{field, text_field}
use Rattle.laws.specs.Bytes.{bytes}
use Rattle.lines.proofs.PutsLaws.{puts_as, puts_more}
use Rattle.order_listing.proofs.LineLaws.{order_free, order_held, order_refused}
use Rattle.scene.specs.Record.{name_in}
use mathlib.Core.List.{◌++◌, append_assoc}
use Rattle.std.proofs.Common.{◌≡◌, ap, None, Some, Ok, rules}
use Rattle.order_listing.specs.Told.{told}
use Rattle.order_listing.proofs.put_order.Goals as goal

pub returns-in-Ok-None : goal.returns-in-Ok-None
returns-in-Ok-None c =
    let a = c.args in
    let free : a.order ≡ Ok None = search rules in
    puts_as _ (order_free a.text.now a.records.now (ap told free)) c.put.ensures

pub returns-in-Ok-Some : goal.returns-in-Ok-Some
returns-in-Ok-Some c =
    let a = c.args in
    let held : a.order ≡ Ok (Some c.in-Ok-Some.held) = search rules in
    let name = name_in a.text.now a.records.now c.in-Ok-Some.held.named in
    puts_as _ (order_held a.text.now a.records.now (ap told held))
    (puts_more (field " order=held by=" c.in-Ok-Some.held.by ++ text_field " name=" name) (bytes "\n")
    (puts_as _ (append_assoc (field " order=held by=" c.in-Ok-Some.held.by) (bytes " name=") name) (puts_more (field " order=held by=" c.in-Ok-Some.held.by ++ bytes " name=") name (puts_more (field " order=held by=" c.in-Ok-Some.held.by) (bytes " name=") c.put_number-behind_by.ensures c.put-behind_label.ensures) (puts_as _ c.name_of-name.ensures c.put-behind_name.ensures))) c.put-in-Ok-Some.ensures)

pub returns-in-Err : goal.returns-in-Err
returns-in-Err c =
    let a = c.args in
    puts_as _ (order_refused a.text.now a.records.now (ap told c.in-Err.is)) (puts_more (field " refused=" c.in-Err.reason) (bytes "\n") c.put_number-behind_reason.ensures c.put-in-Err.ensures)
