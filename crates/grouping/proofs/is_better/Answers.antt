-- `grouping::is_better` meets its contract.
use Rattle.grouping.proofs.ScanLaws.{better_first, better_rank}
use Rattle.grouping.proofs.is_better.Goals as goal

pub returns-then-best-eq0 : goal.returns-then-best-eq0
returns-then-best-eq0 c = better_first _ _ _ _ c.if-best-eq0.true

pub returns : goal.returns
returns c = better_rank _ _ _ _ _ _ _ _ c.if-best-eq0.false c.field.ensures c.rank-new.ensures c.field-2.ensures c.rank.ensures
