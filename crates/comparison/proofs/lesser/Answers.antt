-- `comparison::lesser` meets its contract.
use Rattle.comparison.proofs.StepLaws.{lesser_none, lesser_only, lesser_second, lesser_first}
use Rattle.comparison.proofs.lesser.Goals as goal

pub returns-then-m-eq0 : goal.returns-then-m-eq0
returns-then-m-eq0 c =
    let a = c.args in
    lesser_none a.left.text.now a.left.records.now a.m a.right.text.now a.right.records.now a.n _ _ c.name_of-first.ensures c.name_of-second.ensures c.if-m-eq0.true

pub returns-then-n-eq0 : goal.returns-then-n-eq0
returns-then-n-eq0 c =
    let a = c.args in
    lesser_only a.left.text.now a.left.records.now a.m a.right.text.now a.right.records.now a.n _ _ c.name_of-first.ensures c.name_of-second.ensures c.if-m-eq0.false c.if-n-eq0.true

pub returns-then-lower : goal.returns-then-lower
returns-then-lower c =
    let a = c.args in
    lesser_second a.left.text.now a.left.records.now a.m a.right.text.now a.right.records.now a.n _ _ c.name_of-first.ensures c.name_of-second.ensures c.if-m-eq0.false c.if-n-eq0.false _ c.lower.ensures c.if-lower.true

pub returns : goal.returns
returns c =
    let a = c.args in
    lesser_first a.left.text.now a.left.records.now a.m a.right.text.now a.right.records.now a.n _ _ c.name_of-first.ensures c.name_of-second.ensures c.if-m-eq0.false c.if-n-eq0.false _ c.lower.ensures c.if-lower.false
