-- `statement::name` meets its contract.
use mathlib.Core.Path.{◌∙◌}
use Rattle.statement.proofs.HeadLaws.{name_void, name_given}
use Rattle.statement.proofs.name.Goals as goal

pub returns-then-same : goal.returns-then-same
returns-then-same c = c.refused.ensures ∙ name_void _ _ _ _ c.same.ensures c.if-same.true

pub returns : goal.returns
returns c = c.going.ensures ∙ name_given _ _ _ _ c.same.ensures c.named.ensures c.if-same.false
