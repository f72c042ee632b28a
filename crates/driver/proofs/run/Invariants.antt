use mathlib.Core.Path.{◌≡◌}
use Prim.Native.Nat.{◌+◌, ◌-◌}
use lib.ListN.{length}
use Rattle.progress.specs.Invariant.{Inv}
use Rattle.driver.proofs.run.Given as goal

abbrev pub invariant-loop-t : goal.invariant-loop-t
invariant-loop-t l = Inv l.text l.records l.reals l.index l.settings l.s × (length l.records ≡ length l.initial.records) × (length l.reals ≡ length l.initial.reals) × (length l.index ≡ length l.initial.index)

abbrev pub decreases-loop-t : goal.decreases-loop-t
decreases-loop-t l = length l.text + 1 - l.s.at
