-- `keys::better` meets its contract.
use Rattle.keys.proofs.ScanLaws.{better_not, better_first, better_lower, better_kept}
use Rattle.keys.proofs.better.Goals as goal

pub returns-then-best-eq0 : goal.returns-then-best-eq0
returns-then-best-eq0 c =
    let a = c.args in
    better_first a.text.now a.records.now a.name.now _ a.best a.n c.name_of-other.ensures _ c.lower.ensures c.if-lower.true c.if-best-eq0.true

pub returns-then-lower-2 : goal.returns-then-lower-2
returns-then-lower-2 c =
    let a = c.args in
    better_lower a.text.now a.records.now a.name.now _ a.best a.n c.name_of-other.ensures _ c.lower.ensures c.if-lower.true c.if-best-eq0.false _ c.name_of.ensures _ c.lower-then-lower.ensures c.if-lower-2.true

pub returns-then-lower : goal.returns-then-lower
returns-then-lower c =
    let a = c.args in
    better_kept a.text.now a.records.now a.name.now _ a.best a.n c.name_of-other.ensures _ c.lower.ensures c.if-lower.true c.if-best-eq0.false _ c.name_of.ensures _ c.lower-then-lower.ensures c.if-lower-2.false

pub returns : goal.returns
returns c =
    let a = c.args in
    better_not a.text.now a.records.now a.name.now _ a.best a.n c.name_of-other.ensures _ c.lower.ensures c.if-lower.false
