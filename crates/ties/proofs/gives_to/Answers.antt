-- `ties::gives_to` meets its contract.
use Rattle.ties.proofs.HeldLaws.{gives_none, gives_some}
use Rattle.ties.proofs.gives_to.Goals as goal

pub returns-then-not-gives : goal.returns-then-not-gives
returns-then-not-gives c =
    let a = c.args in
    gives_none a.records.now a.classes.now a.i a.j _ c.gives.ensures c.if-not-gives.true

pub returns : goal.returns
returns c =
    let a = c.args in
    gives_some a.records.now a.classes.now a.i a.j _ c.gives.ensures c.if-not-gives.false _ _ _ _ c.number_at-class.ensures c.number_at.ensures c.gives-2.ensures c.refers.ensures
