-- `statement::target` meets its contract.
use mathlib.Core.Path.{◌∙◌}
use Rattle.statement.proofs.HeadLaws.{target_unknown, target_known}
use Rattle.statement.proofs.target.Goals as goal

pub returns-then-v-eq0 : goal.returns-then-v-eq0
returns-then-v-eq0 c = c.refused.ensures ∙ target_unknown _ _ c.if-v-eq0.true

pub returns : goal.returns
returns c = target_known _ _ c.if-v-eq0.false c.of_target.ensures
