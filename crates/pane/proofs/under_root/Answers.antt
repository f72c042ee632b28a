-- `pane::under_root` meets its contract.
use Rattle.pane.specs.Transmissivity.{under_root}
use Rattle.pane.proofs.ConstantLaws.{offset_bits, slope_bits}
use Rattle.pane.proofs.under_root.Goals as goal

pub returns : goal.returns
unfolding under_root
returns c = simp (← offset_bits, ← slope_bits, ← c.step.ensures, ← c.step-square.ensures) c.step-2.ensures
