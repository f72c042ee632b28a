use Rattle.grouping.specs.Code.{Looking}
use Rattle.ties.specs.Ties.{held_rows}
use Rattle.grouping.proofs.looked.Given as goal

abbrev pub invariant-loop-known : goal.invariant-loop-known
invariant-loop-known l = Looking (held_rows l.records l.classes) l.seen l.k l.known
