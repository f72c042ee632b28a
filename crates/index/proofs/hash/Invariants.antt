use Rattle.index.specs.Searches.{Hashed}
use Rattle.index.proofs.hash.Given as goal

abbrev pub invariant-loop-i : goal.invariant-loop-i
invariant-loop-i l = Hashed l.word l.h l.i
