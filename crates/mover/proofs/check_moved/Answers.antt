-- `mover::check_moved` meets its contract.
use Rattle.mover.proofs.RefusalLaws.{all_fits, too_long, too_many, too_small}
use Rattle.mover.proofs.check_moved.Goals as goal

pub returns-then-long : goal.returns-then-long
returns-then-long c = let a = c.args in too_long a.long a.reals a.room a.len a.output c.if-long.true

pub returns-then-room-reals : goal.returns-then-room-reals
returns-then-room-reals c = let a = c.args in too_many a.long a.reals a.room a.len a.output c.if-long.false c.if-room-reals.true

pub returns-then-output-len : goal.returns-then-output-len
returns-then-output-len c = let a = c.args in too_small a.long a.reals a.room a.len a.output c.if-long.false c.if-room-reals.false c.if-output-len.true

pub returns : goal.returns
returns c = let a = c.args in all_fits a.long a.reals a.room a.len a.output c.if-long.false c.if-room-reals.false c.if-output-len.false
