-- `ties::refers` meets its contract.
use Rattle.ties.proofs.HeldLaws.{refers_is}
use Rattle.ties.proofs.refers.Goals as goal

pub returns : goal.returns
returns c =
    let a = c.args in
    refers_is a.records.now a.classes.now a.n a.class _ _ _ _ c.field-modifier.ensures c.field-target.ensures c.number_at.ensures c.number_at-2.ensures
