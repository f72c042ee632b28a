-- `arguments::real_count` meets its contract.
use mathlib.Core.Path.{◌∙◌}
use Rattle.arguments.proofs.AnswerLaws.{means, reals_none, reals_some, reals_full, reals_refused, real_count_malformed}
use Rattle.numeral.specs.Count.{counted}
use Rattle.arguments.proofs.real_count.Goals as goal

pub returns-then-n-eq0 : goal.returns-then-n-eq0
returns-then-n-eq0 c = reals_none _ _ _ _ (means counted c.count_of.ensures c.in-Some.is) c.reals_allowed.ensures c.if-reals_allowed.true c.fits.ensures c.if-fits.true c.if-n-eq0.true

pub returns-then-fits : goal.returns-then-fits
returns-then-fits c = c.going.ensures ∙ reals_some _ _ _ _ (means counted c.count_of.ensures c.in-Some.is) c.reals_allowed.ensures c.if-reals_allowed.true c.fits.ensures c.if-fits.true c.if-n-eq0.false

pub returns-then-reals_allowed : goal.returns-then-reals_allowed
returns-then-reals_allowed c = c.refused-then-reals_allowed.ensures ∙ reals_full _ _ _ _ (means counted c.count_of.ensures c.in-Some.is) c.reals_allowed.ensures c.if-reals_allowed.true c.fits.ensures c.if-fits.false

pub returns-in-None : goal.returns-in-None
returns-in-None c = c.refused.ensures ∙ real_count_malformed _ _ _ _ (means counted c.count_of.ensures c.in-None.is)

pub returns-else-reals_allowed : goal.returns-else-reals_allowed
returns-else-reals_allowed c = c.refused-in-Some.ensures ∙ reals_refused _ _ _ _ (means counted c.count_of.ensures c.in-Some.is) c.reals_allowed.ensures c.if-reals_allowed.false
