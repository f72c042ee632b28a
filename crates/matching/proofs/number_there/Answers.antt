-- `matching::number_there` meets its contract.
use Rattle.name_index.proofs.NameLaws.{found_number}
use Rattle.matching.proofs.number_there.Goals as goal

pub returns : goal.returns
returns c =
    let a = c.args in
    found_number a.b.text.now a.b.records.now _ _ _ _ _ c.requires c.name_of-name.ensures c.search.ensures
