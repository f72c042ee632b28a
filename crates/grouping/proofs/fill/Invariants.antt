use Rattle.grouping.specs.Code.{Filling, type_in}
use Rattle.ties.specs.Ties.{held_rows}
use Rattle.grouping.proofs.fill.Given as goal

abbrev pub invariant-loop-entry : goal.invariant-loop-entry
invariant-loop-entry l = Filling (held_rows l.records l.classes) (type_in l.records) l.seen l.order l.entry-index l.last
