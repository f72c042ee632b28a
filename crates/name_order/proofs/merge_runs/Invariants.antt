use Prim.Native.Nat.{◌-◌, ◌≤◌}
use lib.ListN.{length}
use Rattle.name_order.proofs.RunLaws.{Paired}
use Rattle.name_order.specs.Sort.{earlier}
use Rattle.name_order.proofs.merge_runs.Given as goal

abbrev pub invariant-loop-at : goal.invariant-loop-at
invariant-loop-at l = (l.at ≤ 5120) × Paired (earlier l.text l.records) l.from l.to l.width l.at

abbrev pub decreases-loop-at : goal.decreases-loop-at
decreases-loop-at l = length l.from - l.at
