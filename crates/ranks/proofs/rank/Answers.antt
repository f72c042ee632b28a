-- `ranks::rank` meets its contract.
use Rattle.ranks.proofs.CountLaws.{rank_same, rank_apart}
use Rattle.ranks.proofs.rank.Goals as goal

pub returns-then-same : goal.returns-then-same
returns-then-same c =
    let a = c.args in
    rank_same a.text.now a.records.now a.last a.k a.n _ _ _ c.same.ensures c.name_of-name.ensures c.name_of.ensures c.if-same.true

pub returns : goal.returns
returns c =
    let a = c.args in
    rank_apart a.text.now a.records.now a.last a.k a.n _ _ _ c.same.ensures c.name_of-name.ensures c.name_of.ensures c.if-same.false
