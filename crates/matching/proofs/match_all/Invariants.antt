use Rattle.matching.specs.Matching.{match_of}
use Rattle.tabled.specs.Tabled.{Tabling}
use Rattle.matching.proofs.match_all.Given as goal

abbrev pub invariant-loop-i : goal.invariant-loop-i
invariant-loop-i l = Tabling (match_of l.a.text.now l.a.records.now l.a.reals.now l.b.text.now l.b.records.now l.b.reals.now) l.initial.matches l.matches l.i
