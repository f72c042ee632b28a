-- `index::stops` meets its contract: the name of a whole record is read in place.
use mathlib.Core.Path.{sym}
use Rattle.index.proofs.SearchLaws.{name_at, stops_else, stops_zero}
use Rattle.index.proofs.stops.Goals as goal

pub returns-then-number-eq0 : goal.returns-then-number-eq0
returns-then-number-eq0 c = sym (stops_zero _ _ _ c.if-number-eq0.true)

pub returns-then-records-row : goal.returns-then-records-row
returns-then-records-row c = stops_else _ _ _ _ _ c.if-number-eq0.false c.same.ensures c.name_of.ensures

pub returns : goal.returns
returns c = stops_else _ _ _ _ _ c.if-number-eq0.false c.is_part.ensures (name_at _ _ _ c.if-number-eq0.false)
