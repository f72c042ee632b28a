use mathlib.Core.Path.{◌≡◌}
use Prim.Native.Nat.{◌*◌, ◌^◌, ◌≤◌, ◌<◌}
use Rattle.root.proofs.filled.Given as goal

abbrev pub invariant-loop-digits : goal.invariant-loop-digits
invariant-loop-digits l = (l.digits < 2 ^ 53) × (2 ^ 52 ≤ l.digits * 2 ^ l.power) × (l.digits * 2 ^ l.power ≡ l.initial.digits * 2 ^ l.initial.power) × (l.power ≤ l.initial.power)

abbrev pub decreases-loop-digits : goal.decreases-loop-digits
decreases-loop-digits l = l.power
