-- `index::put` meets its contract.
use mathlib.Core.Path.{sym}
use Rattle.index.proofs.SearchLaws.{set_beyond}
use Rattle.index.proofs.put.Goals as goal

pub returns-else-entry-index : goal.returns-else-entry-index
returns-else-entry-index c = sym (set_beyond _ _ _ c.if-entry-index.false)
