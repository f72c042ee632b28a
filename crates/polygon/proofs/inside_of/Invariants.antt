use Prim.Native.Nat.{◌*◌, ◌≤◌}
use lib.ListN.{length}
use Rattle.polygon.proofs.EdgeLaws.{Crosses}
use Rattle.edges.specs.Code.{axis_of}
use Rattle.polygon.proofs.inside_of.Given as goal

abbrev pub invariant-loop-i : goal.invariant-loop-i
invariant-loop-i l = Crosses (axis_of l.a) l.p l.reals l.first l.from l.odd l.i × (l.i * 3 ≤ length l.reals)
