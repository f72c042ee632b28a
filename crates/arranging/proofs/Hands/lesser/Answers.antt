-- `Hands::lesser` meets its contract.
use mathlib.Core.Path.{◌∙◌}
use Rattle.arranging.proofs.OrderLaws.{lesser_best, lesser_first, lesser_new}
use Rattle.arranging.specs.Hands.{both}
use Rattle.keys.specs.Key.{lower}
use Rattle.arranging.proofs.Hands.lesser.Goals as goal

pub returns-then-best-eq0 : goal.returns-then-best-eq0
returns-then-best-eq0 c =
    let a = c.args in
    lesser_first (both a.self).name a.best a.n c.if-best-eq0.true

pub returns-then-lower : goal.returns-then-lower
returns-then-lower c =
    let a = c.args in
    lesser_best (both a.self).name a.best a.n c.if-best-eq0.false _ (c.lower.ensures ∙ (λ i. lower (c.name.ensures i) (c.name-2.ensures i))) c.if-lower.true

pub returns : goal.returns
returns c =
    let a = c.args in
    lesser_new (both a.self).name a.best a.n c.if-best-eq0.false _ (c.lower.ensures ∙ (λ i. lower (c.name.ensures i) (c.name-2.ensures i))) c.if-lower.false
