-- `name_listing::put_definition` meets its contract.
use Prim.Native.Nat.{ℕ}
use Rattle.fields.specs.Fields.{field}
use Rattle.laws.specs.Bytes.{bytes}
use Rattle.lines.proofs.PutsLaws.{puts_as, puts_more}
use Rattle.name_listing.proofs.LineLaws.{definition_is}
use Rattle.name_listing.specs.NameLine.{users_text}
use Rattle.scene.specs.Record.{line_in}
use mathlib.Core.List.{◌++◌}
use mathlib.Core.Path.{ap}
use Rattle.name_listing.proofs.put_definition.Goals as goal

pub returns : goal.returns
returns c =
    let a = c.args in
    let row = ap (λ (k : ℕ). field " line=" k) c.field-row.ensures in
    puts_as _ (definition_is a.records.now a.count a.d)
    (puts_more (field " no=" a.d ++ field " line=" (line_in a.records.now a.d) ++ bytes " used=") (users_text a.records.now a.d a.count)
    (puts_more (field " no=" a.d ++ field " line=" (line_in a.records.now a.d)) (bytes " used=") (puts_more (field " no=" a.d) (field " line=" (line_in a.records.now a.d)) c.put_number-behind_number.ensures (puts_as _ row c.put_number-behind_line.ensures)) c.put-behind_label.ensures) c.put_users.ensures)
