-- `parser::at_end` meets its contract.
use mathlib.Core.Path.{sym, ◌∙◌}
use Rattle.parser.proofs.at_end.Goals as goal

pub returns-then-is_idle : goal.returns-then-is_idle
returns-then-is_idle c = rw (sym c.is_idle.ensures ∙ c.if-is_idle.true)

pub returns : goal.returns
returns c = c.refused.ensures ∙ rw (sym c.is_idle.ensures ∙ c.if-is_idle.false)
