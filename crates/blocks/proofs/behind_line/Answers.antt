-- `blocks::behind_line` meets its contract.
use native.Mathlib.Omega.{arith}
use Rattle.rearrangement.specs.Blocks.{behind_line}
use Rattle.blocks.proofs.behind_line.Goals as goal

pub returns : goal.returns
unfolding behind_line
returns c = omega arith
