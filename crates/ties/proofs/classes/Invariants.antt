use Rattle.ties.proofs.ClassLaws.{Classed}
use Rattle.ties.proofs.classes.Given as goal

abbrev pub invariant-loop-i : goal.invariant-loop-i
invariant-loop-i l = Classed l.text l.records l.initial.classes l.classes l.i
