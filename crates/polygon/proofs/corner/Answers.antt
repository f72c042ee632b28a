-- `polygon::corner` meets its contract.
use Rattle.polygon.proofs.EdgeLaws.{corner_there}
use Rattle.polygon.proofs.corner.Goals as goal

pub returns : goal.returns
returns c = corner_there c.args.reals.now c.args.i c.requires
