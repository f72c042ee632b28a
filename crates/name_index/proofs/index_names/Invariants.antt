use mathlib.Core.Path.{◌≡◌}
use Prim.Native.Nat.{◌≤◌}
use Rattle.index.specs.Index.{index_by}
use Rattle.name_index.specs.Names.{count_in, rows}
use Rattle.name_index.proofs.index_names.Given as goal

abbrev pub invariant-loop-n : goal.invariant-loop-n
invariant-loop-n l = (l.n ≤ count_in l.records) × (l.index ≡ index_by (rows l.text l.records) l.n)
