-- `keys::hit` meets its contract.
use Rattle.keys.proofs.ScanLaws.{hit_yes, hit_no}
use Rattle.keys.proofs.hit.Goals as goal

pub returns-then-same : goal.returns-then-same
returns-then-same c = hit_yes _ _ _ _ c.same.ensures c.name_of.ensures c.if-same.true

pub returns : goal.returns
returns c = hit_no _ _ _ _ c.same.ensures c.name_of.ensures c.if-same.false
