use mathlib.Core.Bool.{true}
use mathlib.Core.Path.{◌≡◌}
use Prim.Native.Nat.{◌≤◌}
use Rattle.graph.specs.Graph.{graph_of}
use Rattle.shown.specs.List.{every, primitive_fits}
use Rattle.shown.proofs.all_fit.Given as goal

abbrev pub invariant-loop-n : goal.invariant-loop-n
invariant-loop-n l = (l.n ≤ l.count) × (every (primitive_fits (graph_of l.records l.pairs) l.count) l.n ≡ true)
