-- `host_reading::tell_reading` meets its contract.
use Rattle.host_reading.proofs.ReadingLaws.{reading_told}
use Rattle.host_reading.proofs.tell_reading.Goals as goal

pub returns-in-Ok : goal.returns-in-Ok
returns-in-Ok c = reading_told _ _ c.mode_of.ensures _ _ _ _ _ _ _ _ (rw c.in-Ok.is at c.read.ensures)

pub returns-in-Err : goal.returns-in-Err
returns-in-Err c = rw c.number.ensures (reading_told _ _ c.mode_of.ensures _ _ _ _ _ _ _ _ (rw c.in-Err.is at c.read.ensures))
