-- `context::back` meets its contract.
use mathlib.Core.Path.{◌∙◌}
use Rattle.context.proofs.TableLaws.{back_some, back_none}
use Rattle.context.proofs.back.Goals as goal

pub returns-then-j-used : goal.returns-then-j-used
returns-then-j-used c = c.real_at.ensures ∙ back_some _ _ _ c.if-j-used.true

pub returns : goal.returns
unfolding lib.Ieee.of_bits
returns c = back_none c.args.reals.now _ _ c.if-j-used.false
