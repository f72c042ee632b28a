-- `keys::within` meets its contract.
use Rattle.keys.proofs.ScanLaws.{within_low, within_high}
use Rattle.keys.proofs.within.Goals as goal

pub returns-then-n-records : goal.returns-then-n-records
returns-then-n-records c = within_low c.args.n _ c.if-n-records.true

pub returns : goal.returns
returns c = within_high c.args.n _ c.if-n-records.false
