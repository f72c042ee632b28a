-- Every coefficient lies from 0 to 1, by monotone rounding alone.
use mathlib.Core.Bool.{Bool, true, false, not, cond, ◌&&◌}
use mathlib.Core.Path.{◌≡◌, sym, ap, ◌∙◌, subst}
use Prim.Native.Nat.{ℕ, zero, suc}
use lib.Dec.{T}
use lib.Ieee.{Float, nan, inf, fin, binary64, odd, add, sub, mul, div, lt, le}
use lib.Ieee.Fits.{and_l, and_r}
use lib.Ieee.Positive.{num}
use lib.Ieee.Scale.{finite}
use Rattle.steps.specs.Step.{step, ◌⊕◌, ◌⊗◌, +0, +1, half}
use Rattle.steps.proofs.StepLaws.{step_finite, add_finite, mul_finite, div_finite}
use Rattle.steps.proofs.SignLaws.{NonNeg, nonneg_step, nonneg_mul, nonneg_le, nonneg_lt}
use Rattle.steps.proofs.SizeLaws.{difference, quotient}
use Rattle.steps.proofs.RangeLaws.{UpTo, square, mean, in_order}
use Rattle.root.specs.Root.{root_of, root_units}
use Rattle.fresnel.specs.Fresnel.{coefficient, fresnel_of, reflected, cos2_squared}
use Rattle.fresnel.specs.Outcome.{Outcome, coefficients, total, refused}
use Rattle.fresnel.specs.Range.{AllInRange, InRange}

nonneg_odd : (d q k l : ℕ) → NonNeg (odd d false q k l)
unfolding odd
nonneg_odd d zero k l = tt
nonneg_odd d (suc q) k l = tt

nonneg_root : (x : Float) → NonNeg (root_of x)
unfolding root_of root_units
nonneg_root nan = tt
nonneg_root (inf s) = tt
nonneg_root (fin s zero e) = tt
nonneg_root (fin true (suc m) e) = tt
nonneg_root (fin false (suc m) e) = nonneg_odd 53 _ _ 1074

-- ---- the square of (a - b) / (a + b)
coefficient_range : (a b : Float) → NonNeg a → NonNeg b → T (finite (coefficient a b)) → UpTo +1 (coefficient a b)
unfolding coefficient
coefficient_range a b p q h =
    let x = sub binary64 a b in
    let y = add binary64 a b in
    let r = div binary64 (step x) (step y) in
    let square_is = step_finite (mul binary64 (step r) (step r)) h in
    let quotient_is = step_finite r (mul_finite binary64 (step r) (step r) square_is.1).0 in
    let parts = div_finite binary64 (step x) y quotient_is.1 in
    let x_is = step_finite x parts.0 in
    let y_is = step_finite y parts.1 in
    let ab = add_finite binary64 a b y_is.1 in
    let w = difference binary64 a b p q ab.0 ab.1 y_is.1 in
    let r_is : step r ≡ div binary64 x y = quotient_is.0 ∙ (λ i. div binary64 (x_is.0 i) (y_is.0 i)) in
    let u = quotient binary64 x y w y_is.1 (λ z. parts.2 (ap num y_is.0 ∙ z)) in
    subst (UpTo +1) (sym (square_is.0 ∙ (λ i. mul binary64 (r_is i) (r_is i)))) (square binary64 (div binary64 x y) u)

in_range : (x : Float) → UpTo +1 x → InRange x
in_range x h = let o = in_order x h in record { least = o.0; most = o.1 }

-- ---- an answer under a test, and what the test says where it is passed
past : (b : Bool) (o : Outcome) → (n : ℕ) → (T b → AllInRange o) → AllInRange (cond (not b) (refused n) o)
past true o n h = h tt
past false o n h = tt

reflected_range : (cos1 n1 n2 cos2 : Float) → NonNeg cos1 → NonNeg n1 → NonNeg n2 → NonNeg cos2 → AllInRange (reflected cos1 n1 n2 cos2)
unfolding reflected
reflected_range cos1 n1 n2 cos2 c1 m1 m2 c2 = past (finite F) (coefficients FTE FTM F) 20 known
  where
    FTE : Float
    FTE = coefficient (n1 ⊗ cos1) (n2 ⊗ cos2)

    FTM : Float
    FTM = coefficient (n1 ⊗ cos2) (n2 ⊗ cos1)

    F : Float
    F = half ⊗ FTE ⊕ half ⊗ FTM

    known : T (finite F) → AllInRange (coefficients FTE FTM F)
    known g =
        let sum_is_lem = step_finite (add binary64 (half ⊗ FTE) (half ⊗ FTM)) g in
        let halves = add_finite binary64 (half ⊗ FTE) (half ⊗ FTM) sum_is_lem.1 in
        let e_is = step_finite (mul binary64 half FTE) halves.0 in
        let m_is = step_finite (mul binary64 half FTM) halves.1 in
        let e : UpTo +1 FTE = coefficient_range (n1 ⊗ cos1) (n2 ⊗ cos2) (nonneg_step _ (nonneg_mul binary64 n1 cos1 m1 c1)) (nonneg_step _ (nonneg_mul binary64 n2 cos2 m2 c2)) (mul_finite binary64 half FTE e_is.1).1 in
        let m : UpTo +1 FTM = coefficient_range (n1 ⊗ cos2) (n2 ⊗ cos1) (nonneg_step _ (nonneg_mul binary64 n1 cos2 m1 c2)) (nonneg_step _ (nonneg_mul binary64 n2 cos1 m2 c1)) (mul_finite binary64 half FTM m_is.1).1 in
        let f : UpTo +1 F = subst (UpTo +1) (sym (sum_is_lem.0 ∙ (λ i. add binary64 (e_is.0 i) (m_is.0 i)))) (mean binary64 FTE FTM e m) in
        (in_range FTE e, in_range FTM m, in_range F f)

-- for all inputs
pub fresnel_range : (cos1 n1 n2 : Float) → AllInRange (fresnel_of cos1 n1 n2)
unfolding fresnel_of
fresnel_range cos1 n1 n2 =
    past (finite cos1 && finite n1 && finite n2) _ 20 (λ f.
    past (le +0 cos1 && le cos1 +1 && lt +0 n1 && lt +0 n2) _ 21 (λ r.
    past (finite u) _ 20 (λ g. below (lt u +0) (inside r))))
  where
    u : Float
    u = cos2_squared cos1 n1 n2

    below : (b : Bool) → AllInRange (reflected cos1 n1 n2 (step (root_of u))) → AllInRange (cond b total (reflected cos1 n1 n2 (step (root_of u))))
    below true h = tt
    below false h = h

    inside : T (le +0 cos1 && le cos1 +1 && lt +0 n1 && lt +0 n2) → AllInRange (reflected cos1 n1 n2 (step (root_of u)))
    inside r =
        let r3 = and_l (le +0 cos1 && le cos1 +1 && lt +0 n1) (lt +0 n2) r in
        let r2 = and_l (le +0 cos1 && le cos1 +1) (lt +0 n1) r3 in
        reflected_range cos1 n1 n2 (step (root_of u)) (nonneg_le cos1 (and_l (le +0 cos1) (le cos1 +1) r2)) (nonneg_lt n1 (and_r (le +0 cos1 && le cos1 +1) (lt +0 n1) r3))
        (nonneg_lt n2 (and_r (le +0 cos1 && le cos1 +1 && lt +0 n1) (lt +0 n2) r)) (nonneg_step (root_of u) (nonneg_root u))
