-- `root::digit_of` meets its contract.
use mathlib.Core.Bool.{Bool, cond}
use mathlib.Core.Path.{sym, ap}
use borrow.Author.Tests.{le-leb, lt-leb}
use Rattle.root.proofs.digit_of.Goals as goal

pub returns-then-trial-rest : goal.returns-then-trial-rest
returns-then-trial-rest c = let a = c.args in sym (ap (λ (b : Bool). cond b 1 0) (le-leb a.trial a.rest c.if-trial-rest.true))

pub returns-else-trial-rest : goal.returns-else-trial-rest
returns-else-trial-rest c = let a = c.args in sym (ap (λ (b : Bool). cond b 1 0) (lt-leb a.trial a.rest c.if-trial-rest.false))
