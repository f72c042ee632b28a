-- `arguments::integer_count` meets its contract.
use mathlib.Core.Path.{◌∙◌}
use Rattle.arguments.proofs.AnswerLaws.{means, integers_none, integers_some, integer_count_malformed}
use Rattle.numeral.specs.Count.{counted}
use Rattle.arguments.proofs.integer_count.Goals as goal

pub returns-then-n-eq0 : goal.returns-then-n-eq0
returns-then-n-eq0 c = c.going.ensures ∙ integers_none _ _ _ (means counted c.count_of.ensures c.in-Some.is) c.if-n-eq0.true

pub returns-in-None : goal.returns-in-None
returns-in-None c = c.refused.ensures ∙ integer_count_malformed _ _ _ (means counted c.count_of.ensures c.in-None.is)

pub returns-else-n-eq0 : goal.returns-else-n-eq0
returns-else-n-eq0 c = c.refused-in-Some.ensures ∙ integers_some _ _ _ (means counted c.count_of.ensures c.in-Some.is) c.if-n-eq0.false
