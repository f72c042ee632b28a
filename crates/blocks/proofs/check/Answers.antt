-- `blocks::check` meets its contract.
use Rattle.blocks.proofs.CodeLaws.{ended_is, unended_is}
use Rattle.blocks.proofs.check.Goals as goal

pub returns-then-lines_end : goal.returns-then-lines_end
returns-then-lines_end c = let a = c.args in ended_is a.text.now a.records.now a.count c.lines_end.ensures c.if-lines_end.true _ c.check_crowding.ensures

pub returns : goal.returns
returns c = let a = c.args in unended_is a.text.now a.records.now a.count c.lines_end.ensures c.if-lines_end.false
