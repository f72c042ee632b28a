use Prim.Native.Nat.{◌*◌, ◌≤◌}
use lib.ListN.{length}
use Rattle.polygon.proofs.EdgeLaws.{Adds}
use Rattle.polygon.proofs.normal.Given as goal

abbrev pub invariant-loop-i : goal.invariant-loop-i
invariant-loop-i l = Adds l.reals l.first l.from l.n l.i × (l.i * 3 ≤ length l.reals)
