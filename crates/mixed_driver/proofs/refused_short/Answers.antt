-- `mixed_driver::refused_short` meets its contract.
use Rattle.mixed_driver.proofs.EndLaws.{is_long, is_short}
use Rattle.mixed_driver.proofs.refused_short.Goals as goal

pub returns-then-len-gt-MOST_BYTES : goal.returns-then-len-gt-MOST_BYTES
returns-then-len-gt-MOST_BYTES c = is_long _ _ c.if-len-gt-MOST_BYTES.true

pub returns : goal.returns
returns c = is_short _ _ c.if-len-gt-MOST_BYTES.false
