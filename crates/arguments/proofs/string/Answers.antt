-- `arguments::string` meets its contract.
use mathlib.Core.Path.{◌∙◌}
use Rattle.arguments.proofs.AnswerLaws.{string_last, string_more}
use Rattle.arguments.proofs.string.Goals as goal

pub returns-then-s-eq0 : goal.returns-then-s-eq0
returns-then-s-eq0 c = c.going.ensures ∙ string_last _ _ c.if-s-eq0.true

pub returns : goal.returns
returns c = c.going-2.ensures ∙ string_more _ _ c.if-s-eq0.false
