-- `linker::earlier` meets its contract.
use Rattle.linker.proofs.TableLaws.{earlier_surface, earlier_found}
use Rattle.linker.proofs.earlier.Goals as goal

pub returns-then-is_surface : goal.returns-then-is_surface
returns-then-is_surface c =
    let a = c.args in
    earlier_surface a.text.now a.records.now a.index.now a.count a.d c.is_surface.ensures c.if-is_surface.true

pub returns : goal.returns
returns c =
    let a = c.args in
    earlier_found a.text.now a.records.now a.index.now a.count a.d c.is_surface.ensures c.if-is_surface.false c.part-name.ensures c.search.ensures
