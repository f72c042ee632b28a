use Prim.Native.Nat.{◌≤◌}
use Rattle.lines.specs.Puts.{Puts}
use Rattle.name_listing.specs.NameLine.{later_users}
use Rattle.name_listing.proofs.put_laters.Given as goal

abbrev pub invariant-loop-j : goal.invariant-loop-j
invariant-loop-j l = (l.j ≤ l.count) × Puts l.initial.out l.initial.end (later_users l.records l.d l.first l.j) l.end l.out
