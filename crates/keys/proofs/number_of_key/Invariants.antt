use mathlib.Core.List.{[]}
use mathlib.Core.Path.{◌≡◌}
use Prim.Native.Nat.{◌/◌, ◌≤◌}
use lib.ListN.{length}
use Rattle.scene.specs.Record.{width}
use Rattle.keys.specs.Key.{times}
use Rattle.keys.specs.Rows.{rows_in}
use Rattle.keys.proofs.number_of_key.Given as goal

abbrev pub invariant-loop-k : goal.invariant-loop-k
invariant-loop-k l =
    (l.k ≤ length l.records / width) × (l.seen ≤ l.k) × (l.seen ≤ l.above) × (l.seen ≡ times l.name (rows_in l.text l.records [] l.k))
