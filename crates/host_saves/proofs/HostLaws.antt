-- Two readings, as host programs are told of them.
use mathlib.Core.List.{List}
use mathlib.Core.Path.{◌≡◌, refl, ap, subst, ◌∙◌}
use Prim.Native.Nat.{ℕ}
use lib.Ieee.{Float}
use Rattle.host_reading.specs.Host.{mode_of}
use Rattle.laws.specs.Bytes.{Bytes}
use Rattle.pair.specs.Both as both
use Rattle.pair.specs.Both.{Both, ReadsBoth}
use Rattle.scene.specs.declared.Mode.{Mode}
use Rattle.host_saves.specs.Host.{HostReadsBoth}

-- an answer of two readings, told by its numbers; the mode too is handed as a number
pub both_told : (number : ℕ) (mode : Mode) → mode ≡ mode_of number → (left : Bytes) (lr : List ℕ) (lx : List Float) (right : Bytes) (rr : List ℕ) (rx : List Float) (b : Both) (lr' : List ℕ) (lx' : List Float) (rr' : List ℕ) (rx' : List Float) (out : List ℕ) → out ≡ both.values_of b → ReadsBoth mode left lr lx right rr rx b lr' lx' rr' rx' → HostReadsBoth number left lr lx right rr rx (both.reason_of b) out lr' lx' rr' rx'
both_told number mode q left lr lx right rr rx b lr' lx' rr' rx' out h R =
    let e = subst (λ (m : Mode). ReadsBoth m left lr lx right rr rx b lr' lx' rr' rx') q R in
    record {
      says = ap both.reason_of e.says;
      numbers = h ∙ ap both.values_of e.says;
      tables = record { says = refl; left_table = e.left_table; left_doubles = e.left_doubles; right_table = e.right_table; right_doubles = e.right_doubles };
    }
