use mathlib.Core.Path.{◌≡◌}
use Prim.Native.Nat.{◌+◌}
use Rattle.name_order.proofs.TurnLaws.{Merging}
use Rattle.name_order.specs.Sort.{earlier}
use Rattle.name_order.proofs.merge.Given as goal

abbrev pub invariant-loop-entry : goal.invariant-loop-entry
invariant-loop-entry l = Merging (earlier l.text l.records) l.left l.right l.out l.i l.j × (l.i + l.j ≡ l.entry-index)
