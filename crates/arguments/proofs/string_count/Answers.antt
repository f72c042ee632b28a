-- `arguments::string_count` meets its contract.
use mathlib.Core.Path.{◌∙◌}
use Rattle.arguments.proofs.AnswerLaws.{means, strings_none, strings_some, strings_refused, string_count_malformed}
use Rattle.numeral.specs.Count.{counted}
use Rattle.arguments.proofs.string_count.Goals as goal

pub returns-then-n-eq0 : goal.returns-then-n-eq0
returns-then-n-eq0 c = c.going.ensures ∙ strings_none _ _ _ (means counted c.count_of.ensures c.in-Some.is) c.strings_allowed.ensures c.if-strings_allowed.true c.if-n-eq0.true

pub returns-then-strings_allowed : goal.returns-then-strings_allowed
returns-then-strings_allowed c = c.going-then-strings_allowed.ensures ∙ strings_some _ _ _ (means counted c.count_of.ensures c.in-Some.is) c.strings_allowed.ensures c.if-strings_allowed.true c.if-n-eq0.false

pub returns-in-None : goal.returns-in-None
returns-in-None c = c.refused.ensures ∙ string_count_malformed _ _ _ (means counted c.count_of.ensures c.in-None.is)

pub returns-else-strings_allowed : goal.returns-else-strings_allowed
returns-else-strings_allowed c = c.refused-in-Some.ensures ∙ strings_refused _ _ _ (means counted c.count_of.ensures c.in-Some.is) c.strings_allowed.ensures c.if-strings_allowed.false
