-- `picking::chosen` meets its contract.
use Rattle.joining.specs.Pick as pick
use borrow.Author.Rules.{rules}
use Rattle.picking.proofs.chosen.Goals as goal

pub returns-then-agree : goal.returns-then-agree
unfolding pick.chosen
returns-then-agree c = search rules

pub returns-then-left_kept : goal.returns-then-left_kept
unfolding pick.chosen
returns-then-left_kept c = search rules

pub returns-then-right_kept : goal.returns-then-right_kept
unfolding pick.chosen
returns-then-right_kept c = search rules

pub returns : goal.returns
unfolding pick.chosen
returns c = search rules
