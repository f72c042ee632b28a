-- `planning::twice` meets its contract.
use Rattle.planning.proofs.PlanLaws.{twice_first, twice_second, twice_third}
use Rattle.planning.proofs.twice.Goals as goal

pub returns-then-not-names_once : goal.returns-then-not-names_once
returns-then-not-names_once c = twice_first _ _ _ _ c.names_once.ensures c.if-not-names_once.true-raw

pub returns-then-not-names_once-2 : goal.returns-then-not-names_once-2
returns-then-not-names_once-2 c = twice_second _ _ _ _ _ c.names_once.ensures c.if-not-names_once.false-raw c.names_once-2.ensures c.if-not-names_once-2.true-raw

pub returns : goal.returns
returns c = twice_third _ _ _ _ _ _ c.names_once.ensures c.if-not-names_once.false-raw c.names_once-2.ensures c.if-not-names_once-2.false-raw c.names_once-3.ensures
