-- `matching::same_link` meets its contract.
use Rattle.matching.proofs.MatchLaws.{link_both, link_none, link_one}
use Rattle.matching.proofs.same_link.Goals as goal

pub returns-then-i-eq0 : goal.returns-then-i-eq0
returns-then-i-eq0 c =
    let a = c.args in
    link_none a.a.text.now a.a.records.now _ a.b.text.now a.b.records.now _ _ _ c.number-i.ensures c.number-j.ensures c.if-i-eq0.true

pub returns-then-j-eq0 : goal.returns-then-j-eq0
returns-then-j-eq0 c =
    let a = c.args in
    link_one a.a.text.now a.a.records.now _ a.b.text.now a.b.records.now _ _ _ c.number-i.ensures c.number-j.ensures c.if-i-eq0.false c.if-j-eq0.true

pub returns : goal.returns
returns c =
    let a = c.args in
    link_both a.a.text.now a.a.records.now _ a.b.text.now a.b.records.now _ _ _ c.number-i.ensures c.number-j.ensures c.if-i-eq0.false c.if-j-eq0.false _ _ _ c.name_of.ensures c.name_of-2.ensures c.same.ensures
