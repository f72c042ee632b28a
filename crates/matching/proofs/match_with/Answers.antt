-- `matching::match_with` meets its contract.
use Rattle.matching.proofs.MatchLaws.{match_equal, match_none, match_other}
use Rattle.matching.proofs.match_with.Goals as goal

pub returns-then-n-eq0 : goal.returns-then-n-eq0
returns-then-n-eq0 c = match_none _ _ c.if-n-eq0.true

pub returns-then-same_row : goal.returns-then-same_row
returns-then-same_row c = match_equal _ _ c.if-n-eq0.false _ c.same_row.ensures c.if-same_row.true

pub returns : goal.returns
returns c = match_other _ _ c.if-n-eq0.false _ c.same_row.ensures c.if-same_row.false
