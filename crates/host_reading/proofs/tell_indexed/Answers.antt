-- `host_reading::tell_indexed` meets its contract.
use mathlib.Core.Path.{ap}
use Rattle.reader.specs.Answer.{answer_of}
use Rattle.host_reading.proofs.ReadingLaws.{indexed_told}
use Rattle.host_reading.proofs.tell_indexed.Goals as goal

pub returns-in-Ok : goal.returns-in-Ok
returns-in-Ok c = indexed_told _ _ c.mode_of.ensures _ _ _ _ _ _ _ _ _ _ c.read_indexed-r.ensures _ (ap answer_of c.in-Ok.is)

pub returns-in-Err : goal.returns-in-Err
returns-in-Err c = rw c.number.ensures (indexed_told _ _ c.mode_of.ensures _ _ _ _ _ _ _ _ _ _ c.read_indexed-r.ensures _ (ap answer_of c.in-Err.is))
