use lib.ListN.{length}
use Rattle.ranks.proofs.CountLaws.{Ranking}
use Rattle.ranks.proofs.ranks.Given as goal

abbrev pub invariant-loop-n : goal.invariant-loop-n
invariant-loop-n l = Ranking l.text l.records l.order (length l.initial.nths) l.nths l.last l.nth l.n-index
