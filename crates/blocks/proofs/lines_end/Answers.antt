-- `blocks::lines_end` meets its contract.
use Rattle.blocks.proofs.WordLaws.{last_none, last_some}
use Rattle.blocks.proofs.lines_end.Goals as goal

pub returns-in-Some : goal.returns-in-Some
returns-in-Some c = last_some _ _ c.in-Some.ensures.value

pub returns-in-None : goal.returns-in-None
returns-in-None c = last_none _ c.in-None.ensures.value
