use Rattle.grouping.specs.Code.{Choosing, type_in}
use Rattle.ties.specs.Ties.{held_rows}
use Rattle.grouping.proofs.next.Given as goal

abbrev pub invariant-loop-passed : goal.invariant-loop-passed
invariant-loop-passed l = Choosing (held_rows l.records l.classes) (type_in l.records) l.last l.initial.seen l.seen l.best l.passed
