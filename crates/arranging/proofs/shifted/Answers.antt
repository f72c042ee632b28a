-- `arranging::shifted` meets its contract.
use Rattle.arranging.proofs.BothLaws.{shifted_none, shifted_some}
use Rattle.arranging.proofs.shifted.Goals as goal

pub returns-then-n-eq0 : goal.returns-then-n-eq0
returns-then-n-eq0 c = shifted_none c.args.split c.args.n c.if-n-eq0.true

pub returns : goal.returns
returns c = shifted_some c.args.split c.args.n c.if-n-eq0.false
