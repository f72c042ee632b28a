-- `name_listing::name_line` meets its contract.
use Rattle.fields.specs.Fields.{text_field}
use Rattle.laws.specs.Bytes.{Bytes, bytes}
use Rattle.lines.proofs.PutsLaws.{puts_as, puts_more}
use Rattle.name_listing.proofs.LineLaws.{name_is}
use Rattle.name_listing.specs.NameLine.{definition_texts}
use Rattle.scene.specs.Record.{name_in}
use mathlib.Core.List.{◌++◌}
use mathlib.Core.Path.{ap}
use Rattle.name_listing.proofs.name_line.Goals as goal

pub returns : goal.returns
returns c =
    let a = c.args in
    let name = ap (λ (z : Bytes). z) c.name_of.ensures in
    puts_as _ (name_is a.text.now a.records.now a.count a.n)
    (puts_more (text_field "name=" (name_in a.text.now a.records.now a.n) ++ definition_texts a.records.now a.count a.count a.n) (bytes "\n")
    (puts_more (text_field "name=" (name_in a.text.now a.records.now a.n)) (definition_texts a.records.now a.count a.count a.n) (puts_more (bytes "name=") (name_in a.text.now a.records.now a.n) c.put-behind_label.ensures (puts_as _ name c.put-behind_name.ensures)) c.put_definitions-behind_all.ensures) c.put.ensures)
