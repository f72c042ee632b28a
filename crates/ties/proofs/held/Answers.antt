-- `ties::held` meets its contract.
use Rattle.ties.proofs.HeldLaws.{held_is}
use Rattle.ties.proofs.held.Goals as goal

pub returns : goal.returns
returns c =
    let a = c.args in
    held_is a.records.now a.classes.now a.i a.j _ _ _ c.number_at.ensures c.number_at-2.ensures c.bound.ensures
