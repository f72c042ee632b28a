use Prim.Native.Nat.{◌≤◌}
use Rattle.name_listing.specs.NameLine.{first_user}
use mathlib.Core.Path.{◌≡◌}
use Rattle.name_listing.proofs.first_user.Given as goal

abbrev pub invariant-loop-j : goal.invariant-loop-j
invariant-loop-j l = (l.j ≤ l.count) × (first_user l.records l.d l.j ≡ 0)
