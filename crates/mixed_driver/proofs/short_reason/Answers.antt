-- `mixed_driver::short_reason` meets its contract.
use mathlib.Core.Path.{◌∙◌}
use Rattle.mixed_driver.proofs.EndLaws.{is_long, is_short}
use Rattle.mixed_driver.proofs.short_reason.Goals as goal

pub returns-then-len-gt-MOST_BYTES : goal.returns-then-len-gt-MOST_BYTES
returns-then-len-gt-MOST_BYTES c = c.number.ensures ∙ is_long _ _ c.if-len-gt-MOST_BYTES.true

pub returns : goal.returns
returns c = is_short _ _ c.if-len-gt-MOST_BYTES.false
