-- The two bracketed factors of a pane of glass: how much goes through, and how much comes back. "from FTE, FTM and Ct, each 0 to 1,
-- squares first, then left to right"
use Rattle.std.specs.Prelude.{Bool, false, not, cond, ◌&&◌, ℕ, Float, pos, Result, Ok, Err}
use Rattle.std.specs.Float.{fin}
use Rattle.std.specs.Float.Ieee.{le}
use Rattle.std.specs.Float.Ieee.Scale.{finite}
use Rattle.pane.specs.declared.Interreflection.{Interreflection}
use Rattle.scene.specs.Reason.{reason_number}
use Rattle.scene.specs.declared.Reason.{Reason}
use Rattle.steps.specs.Step.{◌⊕◌, ◌⊖◌, ◌⊗◌, ◌⊘◌, +0, +1, half}

-- the number 2 of the formulas
abbrev pub two : Float
two = fin false 1 (pos 1)

-- F is FTE or FTM, and c is Ct². "1-F²·Ct²": F-as-F, times c, 1 less that
unfoldable pub rest : (F c : Float) → Float
rest F c = +1 ⊖ F ⊗ F ⊗ c

-- "0.5·(1-F)²/(1-F²·Ct²)": 1-F, its square, 0.5 times that, over the rest
unfoldable pub through_part : (F c : Float) → Float
through_part F c = let u = +1 ⊖ F in half ⊗ (u ⊗ u) ⊘ rest F c

-- "0.5·F·(1+(1-2·F)·Ct²)/(1-F²·Ct²)": 0.5·F; 2·F, 1 less that, times c, 1 more; the product, over the rest
unfoldable pub back_part : (F c : Float) → Float
back_part F c = half ⊗ F ⊗ (+1 ⊕ (+1 ⊖ two ⊗ F) ⊗ c) ⊘ rest F c

unfoldable pub through : (FTE FTM c : Float) → Float
through FTE FTM c = through_part FTE c ⊕ through_part FTM c

unfoldable pub back : (FTE FTM c : Float) → Float
back FTE FTM c = back_part FTE c ⊕ back_part FTM c

-- what the call answers, in document 01's words
pub data Outcome : Type 0 where
  factors : (through back : Float) → Outcome
  refused : ℕ → Outcome

-- the code's answer
abbrev pub outcome_of : Result Interreflection Reason → Outcome
outcome_of (Ok f) = factors f.through f.back
outcome_of (Err r) = refused (reason_number r)

-- "each 0 to 1"
unfoldable pub is_fraction : Float → Bool
is_fraction x = le +0 x && le x +1

-- "Codes 20 and 21 as in 01": inputs are tested first, 20 before 21; then every step has to be finite
unfoldable pub factors_of : (FTE FTM Ct : Float) → Outcome
factors_of FTE FTM Ct =
    let c = Ct ⊗ Ct in
    cond (not (finite FTE && finite FTM && finite Ct)) (refused 20)
    (cond (not (is_fraction FTE && is_fraction FTM && is_fraction Ct)) (refused 21)
    (cond (not (finite (through FTE FTM c) && finite (back FTE FTM c))) (refused 20)
    (factors (through FTE FTM c) (back FTE FTM c))))
