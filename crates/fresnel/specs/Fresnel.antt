-- "Fresnel (cos1 from 0 to 1; n1, n2 above 0)".
use Rattle.std.specs.Prelude.{not, cond, ◌&&◌, Float}
use Rattle.std.specs.Float.Ieee.{lt, le}
use Rattle.std.specs.Float.Ieee.Scale.{finite}
use Rattle.steps.specs.Step.{step, ◌⊕◌, ◌⊖◌, ◌⊗◌, ◌⊘◌, +0, +1, half}
use Rattle.root.specs.Root.{root_of}
use Rattle.fresnel.specs.Outcome.{Outcome, coefficients, total, refused}

-- "k=n1/n2, t=(k·k)·(1-cos1·cos1), u=1-t"
unfoldable pub cos2_squared : (cos1 n1 n2 : Float) → Float
cos2_squared cos1 n1 n2 =
    let k = n1 ⊘ n2 in
    let t = k ⊗ k ⊗ (+1 ⊖ cos1 ⊗ cos1) in
    +1 ⊖ t

-- "the square of" (a-b)/(a+b)
unfoldable pub coefficient : (a b : Float) → Float
coefficient a b = let q = (a ⊖ b) ⊘ (a ⊕ b) in q ⊗ q

-- "FTE is the square of (n1·cos1-n2·cos2)/(n1·cos1+n2·cos2)", FTM, "multiplied through: the square of
-- (n1·cos2-n2·cos1)/(n1·cos2+n2·cos1)", "F=0.5·FTE+0.5·FTM"
unfoldable pub reflected : (cos1 n1 n2 cos2 : Float) → Outcome
reflected cos1 n1 n2 cos2 =
    let FTE = coefficient (n1 ⊗ cos1) (n2 ⊗ cos2) in
    let FTM = coefficient (n1 ⊗ cos2) (n2 ⊗ cos1) in
    let F = half ⊗ FTE ⊕ half ⊗ FTM in
    cond (not (finite F)) (refused 20) (coefficients FTE FTM F)

-- "Inputs are tested first, 20 before 21"; "u below 0 answers total reflection. cos2=root u"
unfoldable pub fresnel_of : (cos1 n1 n2 : Float) → Outcome
fresnel_of cos1 n1 n2 =
    let u = cos2_squared cos1 n1 n2 in
    cond (not (finite cos1 && finite n1 && finite n2)) (refused 20)
    (cond (not (le +0 cos1 && le cos1 +1 && lt +0 n1 && lt +0 n2)) (refused 21)
    (cond (not (finite u)) (refused 20)
    (cond (lt u +0) total
    (reflected cos1 n1 n2 (step (root_of u))))))
