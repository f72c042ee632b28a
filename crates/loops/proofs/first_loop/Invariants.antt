use mathlib.Core.Path.{◌≡◌}
use Prim.Native.Nat.{◌-◌, ◌≤◌}
use lib.ListN.{length}
use Rattle.graph.specs.Graph.{graph_of}
use Rattle.mixtures.specs.Walk.{Within}
use Rattle.loops.specs.Found.{NoneBelow}
use Rattle.loops.proofs.first_loop.Given as goal

abbrev pub invariant-loop-n : goal.invariant-loop-n
invariant-loop-n l = (length l.marks ≡ length l.initial.marks) × (l.n - 1 ≤ length l.initial.marks - 1) × (Within (graph_of l.records l.pairs) (length l.initial.marks) → NoneBelow (graph_of l.records l.pairs) (length l.initial.marks) l.n)
