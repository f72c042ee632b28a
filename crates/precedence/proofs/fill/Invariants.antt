use mathlib.Core.Path.{◌≡◌}
use Prim.Native.Nat.{◌≤◌}
use lib.ListN.{length}
use Rattle.ties.specs.Ties.{bound_rows}
use Rattle.precedence.specs.Code.{Filled}
use Rattle.precedence.proofs.fill.Given as goal

abbrev pub invariant-loop-k : goal.invariant-loop-k
invariant-loop-k l = (length l.lengths ≡ length l.initial.lengths) × (l.first ≤ l.k) × Filled (bound_rows l.records l.classes) l.lengths l.k
