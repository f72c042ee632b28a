-- `statement::is_idle` meets its contract.
use borrow.Author.Rules.{rules}
use Rattle.statement.proofs.PhaseLaws.{not_idle}
use Rattle.statement.specs.States.{is_idle}
use Rattle.statement.proofs.is_idle.Goals as goal

pub returns-in-Idle : goal.returns-in-Idle
unfolding is_idle
returns-in-Idle c = search rules

pub returns-in_default : goal.returns-in_default
returns-in_default c = not_idle _ c.in_default.not-Idle
