-- `reader::read` meets its contract.
use mathlib.Core.Path.{ap}
use Rattle.driver.specs.Ending.{end_of}
use Rattle.reader.proofs.EndLaws.{reads_as}
use Rattle.std.proofs.lemmas.Result.{err_from_is_err_and}
use Rattle.reader.proofs.read.Goals as goal

pub returns : goal.returns
returns c = rw c.from.ensures (reads_as _ _ _ _ _ _ _ _ _ _ _ c.run.ensures _ (ap end_of c.in_ok-accepted.was))

pub returns-in_err-accepted : goal.returns-in_err-accepted
returns-in_err-accepted c =
    let p = err_from_is_err_and c.from_residual.result c.from_residual.ensures.1 in
    rw (p.1, p.2) (reads_as _ _ _ _ _ _ _ _ _ _ _ c.run.ensures _ (ap end_of c.in_err-accepted.was))
