-- `shown::pair_refusal` meets its contract.
use mathlib.Core.Path.{◌∙◌}
use native.Mathlib.Omega.{arith}
use Rattle.shown.proofs.FitLaws.{pairs_enough, pairs_short}
use Rattle.shown.proofs.pair_refusal.Goals as goal

pub returns-then-pairs-count : goal.returns-then-pairs-count
returns-then-pairs-count c = let a = c.args in pairs_short a.records.now a.pairs.now a.count a.number (omega arith)

pub returns : goal.returns
returns c = let a = c.args in c.number_refusal.ensures ∙ pairs_enough a.records.now a.pairs.now a.count a.number (omega arith)
