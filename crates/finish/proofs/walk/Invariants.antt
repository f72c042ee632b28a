use mathlib.Core.Path.{◌≡◌}
use Prim.Native.Nat.{◌-◌}
use Rattle.finish.specs.Walk.{walk_from}
use Rattle.table.specs.View.{view_of}
use Rattle.finish.proofs.walk.Given as goal

abbrev pub invariant-loop-finish : goal.invariant-loop-finish
invariant-loop-finish l = walk_from (view_of l.records) l.allowance 0 l.number ≡ walk_from (view_of l.records) (l.allowance - l.links) l.links l.at

abbrev pub decreases-loop-finish : goal.decreases-loop-finish
decreases-loop-finish l = l.at
