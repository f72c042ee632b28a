-- `grouping::rank` meets its contract.
use Rattle.grouping.proofs.ScanLaws.{rank_last, rank_other}
use Rattle.grouping.proofs.rank.Goals as goal

pub returns-then-kind-last : goal.returns-then-kind-last
returns-then-kind-last c = rank_last _ _ c.if-kind-last.true

pub returns : goal.returns
returns c = rank_other _ _ c.if-kind-last.false
