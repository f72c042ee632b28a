-- `context::is_looked_up` meets its contract.
use borrow.Author.Rules.{rules}
use Rattle.context.proofs.PhaseLaws.{modifier_looked_up, not_looked_up}
use Rattle.context.specs.Seen.{is_looked_up}
use Rattle.context.proofs.is_looked_up.Goals as goal

pub returns-in-Idle : goal.returns-in-Idle
returns-in-Idle c = modifier_looked_up _ _ _ c.in-Idle.is c.same.ensures

pub returns-in-Target : goal.returns-in-Target
unfolding is_looked_up
returns-in-Target c = search rules

pub returns-in_default : goal.returns-in_default
returns-in_default c = not_looked_up _ c.in_default.not-Idle c.in_default.not-Target _
