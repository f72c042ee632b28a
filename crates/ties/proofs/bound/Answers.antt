-- `ties::bound` meets its contract.
use Rattle.ties.proofs.HeldLaws.{bound_is}
use Rattle.ties.proofs.bound.Goals as goal

pub returns : goal.returns
returns c =
    let a = c.args in
    bound_is a.records.now a.classes.now a.i a.j _ _ c.gives_to-first.ensures c.gives_to.ensures
