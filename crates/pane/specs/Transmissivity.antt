-- "003's transmissivity `(sqrt(.8402528435+.0072522239*Tn*Tn)-.9166530661)/.0036261119/Tn` for Tn above 0 and at most 1".
use Rattle.std.specs.Prelude.{false, not, cond, ◌&&◌, ℕ, Float, Result, Ok, Err}
use Rattle.std.specs.Float.{binary64}
use Rattle.std.specs.Float.Ieee.{le, lt, round}
use Rattle.std.specs.Float.Ieee.Scale.{finite}
use Rattle.root.specs.Root.{root_of}
use Rattle.scene.specs.Reason.{reason_number}
use Rattle.scene.specs.declared.Reason.{Reason}
use Rattle.steps.specs.Step.{step, ◌⊕◌, ◌⊖◌, ◌⊗◌, ◌⊘◌, +0, +1}

-- ---- the four constants: the doubles nearest to the written numerals

unfoldable pub offset : Float
offset = round binary64 false 8402528435 10000000000

unfoldable pub slope : Float
slope = round binary64 false 72522239 10000000000

unfoldable pub origin : Float
origin = round binary64 false 9166530661 10000000000

unfoldable pub scale : Float
scale = round binary64 false 36261119 10000000000

-- ---- the formula, left to right

unfoldable pub under_root : (Tn : Float) → Float
under_root Tn = offset ⊕ slope ⊗ Tn ⊗ Tn

unfoldable pub from_root : (s Tn : Float) → Float
from_root s Tn = (s ⊖ origin) ⊘ scale ⊘ Tn

pub data Outcome : Type 0 where
  transmissivity : (tn : Float) → Outcome
  refused : ℕ → Outcome

-- the code's answer
abbrev pub outcome_of : Result Float Reason → Outcome
outcome_of (Ok tn) = transmissivity tn
outcome_of (Err r) = refused (reason_number r)

-- "with 01's root for sqrt"; "Codes 20 and 21 as in 01"
unfoldable pub transmissivity_of : (Tn : Float) → Outcome
transmissivity_of Tn =
    let tn = from_root (step (root_of (under_root Tn))) Tn in
    cond (not (finite Tn)) (refused 20)
    (cond (not (lt +0 Tn && le Tn +1)) (refused 21)
    (cond (not (finite tn)) (refused 20)
    (transmissivity tn)))
