use Rattle.shown_listing.proofs.JoinedLaws.{Underway}
use Rattle.shown_listing.proofs.put_list.Given as goal

abbrev pub invariant-loop-k : goal.invariant-loop-k
invariant-loop-k l = Underway l.initial.out l.at l.list l.k l.out l.end
