use Rattle.lines.specs.Puts.{Puts}
use Rattle.moved_text.specs.MovedText.{moved_rows}
use Rattle.moved_text.proofs.put_all.Given as goal

abbrev pub invariant-loop-n : goal.invariant-loop-n
invariant-loop-n l = Puts l.initial.out l.initial.end (moved_rows l.direction l.text l.records l.n) l.end l.out
