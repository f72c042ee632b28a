use mathlib.Core.Path.{◌≡◌}
use Prim.Native.Nat.{◌+◌}
use lib.ListN.{drop}
use Rattle.holding.specs.Shortest.{first_on}
use Rattle.ties.specs.Ties.{bound_rows}
use Rattle.precedence.proofs.first_link.Given as goal

abbrev pub invariant-loop-j : goal.invariant-loop-j
invariant-loop-j l = let tied = bound_rows l.records l.classes in first_on tied l.first l.long l.j (drop l.j l.lengths) ≡ first_on tied l.first l.long (l.first + 1) (drop (l.first + 1) l.lengths)
