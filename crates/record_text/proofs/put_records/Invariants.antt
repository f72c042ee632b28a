use Rattle.record_text.specs.RecordText.{record_texts}
use Rattle.lines.specs.Puts.{Puts}
use Rattle.record_text.proofs.put_records.Given as goal

abbrev pub invariant-loop-n : goal.invariant-loop-n
invariant-loop-n l = Puts l.initial.out l.initial.end (record_texts l.text l.records l.n) l.end l.out
