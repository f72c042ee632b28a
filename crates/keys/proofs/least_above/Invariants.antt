use mathlib.Core.Path.{◌≡◌}
use Prim.Native.Nat.{◌/◌, ◌≤◌}
use lib.ListN.{length}
use Rattle.scene.specs.Record.{width}
use Rattle.keys.specs.Scan.{least_in}
use Rattle.keys.proofs.least_above.Given as goal

abbrev pub invariant-loop-k : goal.invariant-loop-k
invariant-loop-k l =
    (l.k ≤ length l.records / width) × (l.best ≡ least_in l.text l.records l.name l.k)
