use mathlib.Core.List.{◌++◌}
use mathlib.Core.Path.{◌≡◌}
use Prim.Native.Nat.{◌^◌, ◌≤◌, ◌<◌}
use lib.ListN.{length, drop}
use Rattle.buffer.specs.Decimal.{digits}
use Rattle.buffer.proofs.spell.Given as goal

abbrev pub invariant-loop-rest : goal.invariant-loop-rest
invariant-loop-rest l = (l.i ≤ length l.initial.text) × (l.rest < 10 ^ l.i) × (length l.text ≡ length l.initial.text) × (digits l.i l.rest ++ drop l.i l.text ≡ digits (length l.initial.text) l.n)

abbrev pub decreases-loop-rest : goal.decreases-loop-rest
decreases-loop-rest l = l.rest
