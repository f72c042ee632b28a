use mathlib.Core.Path.{◌≡◌}
use Prim.Native.Nat.{◌-◌, ◌<◌, ◌≤◌}
use lib.ListN.{length}
use Rattle.name_order.specs.Merge.{Runs}
use Rattle.name_order.specs.Sort.{earlier}
use Rattle.name_order.proofs.sort.Given as goal

abbrev pub invariant-loop-width : goal.invariant-loop-width
invariant-loop-width l = (0 < l.width) × (l.width ≤ 4096) × (length l.order ≡ length l.initial.order) × (length l.scratch ≡ length l.initial.scratch) × Runs (earlier l.text l.records) l.width l.order

abbrev pub decreases-loop-width : goal.decreases-loop-width
decreases-loop-width l = length l.initial.order - l.width
