-- `table::reals_of` meets its contract.
use Rattle.scene.specs.Record.{record_in}
use Rattle.table.proofs.QuestionLaws.{cut_reals}
use Rattle.table.proofs.reals_of.Goals as goal

pub returns : goal.returns
unfolding record_in
returns c =
    let a = c.args in
    cut_reals a.reals.now a.records.now a.n _ _ _ _ c.field-first.ensures c.field-many.ensures c.min-start.ensures c.min.ensures
