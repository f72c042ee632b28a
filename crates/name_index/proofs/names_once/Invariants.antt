use mathlib.Core.Bool.{true}
use mathlib.Core.Path.{◌≡◌}
use Prim.Native.Nat.{◌≤◌}
use Rattle.name_index.specs.Names.{count_in, latest_to}
use Rattle.name_index.proofs.names_once.Given as goal

abbrev pub invariant-loop-row : goal.invariant-loop-row
invariant-loop-row l = (l.row ≤ count_in l.records) × (latest_to l.text l.records l.row ≡ true)
