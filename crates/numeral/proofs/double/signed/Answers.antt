-- `numeral::double::signed` meets its contract.
use borrow.Author.Rules.{rules}
use lib.Ieee.{neg}
use Rattle.numeral.proofs.double.signed.Goals as goal

pub returns-then-negative : goal.returns-then-negative
unfolding neg
returns-then-negative c = search rules
