use mathlib.Core.List.{[]}
use mathlib.Core.Path.{◌≡◌}
use Prim.Native.Nat.{◌≤◌}
use Rattle.keys.specs.Key.{times}
use Rattle.keys.specs.Rows.{rows_in}
use Rattle.keys.proofs.times.Given as goal

abbrev pub invariant-loop-k : goal.invariant-loop-k
invariant-loop-k l = (l.k ≤ l.n) × (l.seen ≤ l.k) × (l.seen ≡ times l.name (rows_in l.text l.records [] l.k))
