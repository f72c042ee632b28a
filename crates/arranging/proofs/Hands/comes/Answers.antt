-- `Hands::comes` meets its contract.
use Rattle.arranging.proofs.OrderLaws.{comes_modifier, comes_not, comes_target}
use Rattle.arranging.specs.Hands.{both}
use Rattle.arranging.proofs.Hands.comes.Goals as goal

pub returns-then-number_at-ne-WAITING : goal.returns-then-number_at-ne-WAITING
returns-then-number_at-ne-WAITING c =
    let a = c.args in
    comes_not (both a.self).link (both a.self).other a.marks.now a.n _ c.number_at.ensures c.if-number_at-ne-WAITING.true

pub returns-then-not-stands : goal.returns-then-not-stands
returns-then-not-stands c =
    let a = c.args in
    comes_modifier (both a.self).link (both a.self).other a.marks.now a.n _ c.number_at.ensures c.if-number_at-ne-WAITING.false _ c.link.ensures _ c.stands.ensures c.if-not-stands.true

pub returns : goal.returns
returns c =
    let a = c.args in
    comes_target (both a.self).link (both a.self).other a.marks.now a.n _ c.number_at.ensures c.if-number_at-ne-WAITING.false _ _ c.link.ensures c.link-2.ensures _ c.stands.ensures c.if-not-stands.false _ c.stands-2.ensures
