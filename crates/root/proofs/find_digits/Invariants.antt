use mathlib.Core.Path.{◌≡◌}
use Prim.Native.Nat.{◌-◌, ◌*◌, ◌^◌, ◌≤◌}
use Rattle.root.specs.Digits.{held, Found}
use Rattle.root.proofs.find_digits.Given as goal

abbrev pub invariant-loop-d : goal.invariant-loop-d
invariant-loop-d l = Found l.d × (held l.d ≡ l.number * 4 ^ l.d.found) × (l.d.found ≤ 53)

abbrev pub decreases-loop-d : goal.decreases-loop-d
decreases-loop-d l = 53 - l.d.found
