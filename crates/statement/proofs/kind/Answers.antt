-- `statement::kind` meets its contract.
use mathlib.Core.Path.{◌∙◌}
use Rattle.statement.proofs.HeadLaws.{kind_alias, kind_unknown, kind_retired, kind_allowed}
use Rattle.statement.proofs.kind.Goals as goal

pub returns-then-same : goal.returns-then-same
returns-then-same c = c.going.ensures ∙ kind_alias _ _ _ _ c.same.ensures c.if-same.true

pub returns-then-t-eq0 : goal.returns-then-t-eq0
returns-then-t-eq0 c = c.refused.ensures ∙ kind_unknown _ _ _ _ c.same.ensures c.if-same.false c.type_number-t.ensures c.if-t-eq0.true

pub returns-then-is_retired : goal.returns-then-is_retired
returns-then-is_retired c =
    c.refused-then-is_retired.ensures
    ∙ kind_retired _ _ _ _ c.same.ensures c.if-same.false c.type_number-t.ensures c.if-t-eq0.false c.is_retired.ensures c.if-is_retired.true

pub returns : goal.returns
returns c =
    c.going-2.ensures
    ∙ kind_allowed _ _ _ _ c.same.ensures c.if-same.false c.type_number-t.ensures c.if-t-eq0.false c.is_retired.ensures c.if-is_retired.false
