use mathlib.Core.Path.{◌≡◌}
use Prim.Native.Nat.{◌-◌, ◌≤◌}
use lib.ListN.{length}
use Rattle.graph.specs.Answers.{those}
use Rattle.shown.specs.Code.{Holds, marked_material}
use Rattle.shown.proofs.materials.Given as goal

abbrev pub invariant-loop-n : goal.invariant-loop-n
invariant-loop-n l = (l.used ≤ l.n) × (l.n ≤ length l.marks - 1) × (length l.list ≡ length l.initial.list) × Holds (those (marked_material l.records l.marks) l.n) (length l.initial.list) l.list l.used
