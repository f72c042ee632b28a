-- `host_reading::mode_of` meets its contract.
use Rattle.host_reading.proofs.ReadingLaws.{mode_archive, mode_new}
use Rattle.host_reading.proofs.mode_of.Goals as goal

pub returns-then-number-eq1 : goal.returns-then-number-eq1
returns-then-number-eq1 c = mode_archive _ c.if-number-eq1.true

pub returns : goal.returns
returns c = mode_new _ c.if-number-eq1.false
