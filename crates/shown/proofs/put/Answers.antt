-- `shown::put` meets its contract.
use mathlib.Core.Path.{sym}
use native.Mathlib.Omega.{arith}
use lib.Seq.{set_out}
use Rattle.shown.proofs.put.Goals as goal

pub overflow_cast-list : goal.overflow_cast-list
overflow_cast-list c = record { fits = omega arith }

pub returns-else-at-list : goal.returns-else-at-list
returns-else-at-list c = let a = c.args in sym (set_out a.list.now a.at a.n c.if-at-list.false)
