use mathlib.Core.Path.{◌≡◌}
use Prim.Native.Nat.{◌+◌}
use lib.ListN.{drop}
use Rattle.holding.specs.Shortest.{nearest}
use Rattle.ties.specs.Ties.{bound_rows}
use Rattle.precedence.proofs.nearest.Given as goal

abbrev pub invariant-loop-j : goal.invariant-loop-j
invariant-loop-j l = let tied = bound_rows l.records l.classes in nearest tied l.k l.j (drop l.j l.lengths) l.best ≡ nearest tied l.k (l.k + 1) (drop (l.k + 1) l.lengths) 0
