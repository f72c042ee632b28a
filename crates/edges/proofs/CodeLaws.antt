-- The code's answers, case by case.
use mathlib.Core.Bool.{Bool, true, false, cond}
use mathlib.Core.Option.{none, some}
use mathlib.Core.Path.{◌≡◌, refl, ap, ◌∙◌}
use lib.Ieee.{Float, lt}
use lib.Ieee.Scale.{finite}
use Rattle.std.specs.Bool.{then_some}
use Rattle.edges.specs.Code.{crossed_of}
use Rattle.edges.specs.Crossing.{Crossed}

some_cond : (b o : Bool) → crossed_of (then_some b o) ≡ cond {A = Crossed} b (some o) none
some_cond true o = refl
some_cond false o = refl

-- an edge that is worked out stands at t, and the point at g
pub worked : (g at t : Float) {w : Bool} → w ≡ finite at → at ≡ t → crossed_of (then_some w (lt g at)) ≡ cond {A = Crossed} (finite t) (some (lt g t)) none
worked g at t {w} f e = some_cond w (lt g at) ∙ (λ i. cond {A = Crossed} (f i) (some (lt g at)) none) ∙ ap (λ (z : Float). cond {A = Crossed} (finite z) (some (lt g z)) none) e
