use mathlib.Core.Path.{◌≡◌}
use Prim.Native.Nat.{◌≤◌}
use Rattle.mover.specs.Code.{reals_to}
use Rattle.mover.proofs.moved_reals.Given as goal

abbrev pub invariant-loop-n : goal.invariant-loop-n
invariant-loop-n l = (l.total ≤ 4097) × (l.total ≡ reals_to l.direction l.text l.records l.n)
