-- `name_listing::uses` meets its contract.
use Rattle.name_listing.proofs.LineLaws.{uses_is}
use Rattle.name_listing.proofs.uses.Goals as goal

pub returns : goal.returns
returns c = let a = c.args in uses_is a.records.now a.d a.j _ _ c.field-modifier.ensures c.field-target.ensures
