-- `ties::gives` meets its contract.
use Rattle.ties.proofs.HeldLaws.{gives_is}
use Rattle.ties.proofs.gives.Goals as goal

pub returns : goal.returns
returns c = let a = c.args in gives_is a.records.now a.n _ _ c.field.ensures c.is_modifier.ensures
