-- `Hands::stands` meets its contract.
use mathlib.Core.Path.{ap, ◌∙◌}
use Rattle.arranging.proofs.OrderLaws.{stands_none, stands_other, stands_own}
use Rattle.arranging.specs.Hands.{both}
use Rattle.table.specs.Number.{number_in}
use Rattle.arranging.proofs.Hands.stands.Goals as goal

pub returns-then-n-eq0 : goal.returns-then-n-eq0
returns-then-n-eq0 c =
    let a = c.args in
    stands_none (both a.self).other a.marks.now a.n c.if-n-eq0.true

pub returns-then-other-eq-DROPPED : goal.returns-then-other-eq-DROPPED
returns-then-other-eq-DROPPED c =
    let a = c.args in
    stands_own (both a.self).other a.marks.now a.n c.if-n-eq0.false _ (c.number_at-other.ensures ∙ ap (number_in a.marks.now) c.other.ensures) c.if-other-eq-DROPPED.true _ c.number_at.ensures

pub returns : goal.returns
returns c =
    let a = c.args in
    stands_other (both a.self).other a.marks.now a.n c.if-n-eq0.false _ (c.number_at-other.ensures ∙ ap (number_in a.marks.now) c.other.ensures) c.if-other-eq-DROPPED.false
