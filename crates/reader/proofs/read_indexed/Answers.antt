-- `reader::read_indexed` meets its contract.
use mathlib.Core.Path.{ap}
use Rattle.driver.specs.Ending.{end_of}
use Rattle.reader.proofs.EndLaws.{reads_indexed, reads_short}
use Rattle.reader.proofs.read_indexed.Goals as goal

pub returns-then-index-lt-ENTRIES : goal.returns-then-index-lt-ENTRIES
unfolding lib.Ieee.of_bits
returns-then-index-lt-ENTRIES c =
    let a = c.args in
    reads_short a.mode a.text.now a.records.now a.reals.now a.pairs.now a.index.now c.if-index-lt-ENTRIES.true _ _ _ _ c.clear_all.ensures.records_after c.clear_all.ensures.reals_after (c.fill.ensures.after (λ _ e. e)) c.clear_all.ensures.index_after _ c.without_index.ensures

pub returns-in-Ok : goal.returns-in-Ok
returns-in-Ok c = rw c.from.ensures (reads_indexed _ _ _ _ _ _ _ _ _ _ _ c.run.ensures _ (ap end_of c.in-Ok.is) c.if-index-lt-ENTRIES.false)

pub returns-in-Err : goal.returns-in-Err
returns-in-Err c = reads_indexed _ _ _ _ _ _ _ _ _ _ _ c.run.ensures _ (ap end_of c.in-Err.is) c.if-index-lt-ENTRIES.false
