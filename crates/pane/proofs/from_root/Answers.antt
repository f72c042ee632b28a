-- `pane::from_root` meets its contract.
use Rattle.pane.specs.Transmissivity.{from_root}
use Rattle.pane.proofs.ConstantLaws.{origin_bits, scale_bits}
use Rattle.pane.proofs.from_root.Goals as goal

pub returns : goal.returns
unfolding from_root
returns c = simp (← origin_bits, ← scale_bits, ← c.step.ensures, ← c.step-2.ensures) c.step-3.ensures
