-- Neither factor is below 0.
use mathlib.Core.Bool.{Bool, true, false, not, cond, ◌&&◌}
use Prim.Native.Nat.{ℕ}
use lib.Dec.{T}
use lib.Ieee.{Float, binary64, le}
use lib.Ieee.Fits.{and_l, and_r}
use lib.Ieee.Scale.{finite}
use Rattle.steps.specs.Step.{◌⊕◌, ◌⊖◌, ◌⊗◌, +0, +1, half}
use Rattle.steps.proofs.SignLaws.{NonNeg, nonneg_step, nonneg_mul, nonneg_le}
use Rattle.pane.specs.Factors.{Outcome, back, back_part, factors, factors_of, is_fraction, refused, rest, through, through_part, two}
use Rattle.pane.specs.Range.{NotBelow0, RangeLaw}
use Rattle.pane.proofs.BoundLaws.{Bounded, bounded_le, bounded_less, bounded_mul, bounded_step, bounded_twice, le_nonneg, nonneg_add, nonneg_div, nonneg_less, nonneg_more}

-- ---- a value from 0 to 1

record Fraction (x : Float) : Type 0 where
  least : NonNeg x
  most : Bounded +1 x

fraction : (x : Float) → T (is_fraction x) → Fraction x
unfolding is_fraction
fraction x h = let p = nonneg_le x (and_l (le +0 x) (le x +1) h) in record { least = p; most = bounded_le x p (and_r (le +0 x) (le x +1) h) }

-- ---- the parts, of an F from 0 to 1 and a c from -1 to 1

nonneg_rest : (F c : Float) → Bounded +1 F → Bounded +1 c → NonNeg (rest F c)
unfolding rest
nonneg_rest F c p q = nonneg_step _ (nonneg_less (F ⊗ F ⊗ c) (bounded_step +1 _ (bounded_mul (F ⊗ F) c (bounded_step +1 _ (bounded_mul F F p p)) q)))

nonneg_through : (F c : Float) → Bounded +1 F → Bounded +1 c → NonNeg (through_part F c)
unfolding through_part
nonneg_through F c p q =
    let u = +1 ⊖ F in
    let u_is : NonNeg u = nonneg_step _ (nonneg_less F p) in
    nonneg_step _ (nonneg_div (half ⊗ (u ⊗ u)) (rest F c) (nonneg_step _ (nonneg_mul binary64 half (u ⊗ u) tt (nonneg_step _ (nonneg_mul binary64 u u u_is u_is)))) (nonneg_rest F c p q))

nonneg_back : (F c : Float) → Fraction F → Bounded +1 c → NonNeg (back_part F c)
unfolding back_part
nonneg_back F c p q =
    let t = two ⊗ F in
    let v = +1 ⊖ t in
    let w = +1 ⊕ v ⊗ c in
    let v_is : Bounded +1 v = bounded_step +1 _ (bounded_less t (nonneg_step _ (nonneg_mul binary64 two F tt p.least)) (bounded_step two _ (bounded_twice F p.most))) in
    let w_is : NonNeg w = nonneg_step _ (nonneg_more (v ⊗ c) (bounded_step +1 _ (bounded_mul v c v_is q))) in
    nonneg_step _
    (nonneg_div (half ⊗ F ⊗ w) (rest F c) (nonneg_step _ (nonneg_mul binary64 (half ⊗ F) w (nonneg_step _ (nonneg_mul binary64 half F tt p.least)) w_is)) (nonneg_rest F c p.most q))

-- ---- an answer under a test, and what the test says where it is passed

past : (b : Bool) (o : Outcome) (n : ℕ) → (T b → NotBelow0 o) → NotBelow0 (cond (not b) (refused n) o)
past true o n h = h tt
past false o n h = tt

-- for all inputs
pub not_below_0 : RangeLaw
unfolding factors_of through back
not_below_0 FTE FTM Ct =
    past (finite FTE && finite FTM && finite Ct) _ 20 (λ f.
    past (is_fraction FTE && is_fraction FTM && is_fraction Ct) _ 21 (λ r.
    past (finite (through FTE FTM c) && finite (back FTE FTM c)) _ 20 (λ g. inside r g)))
  where
    c : Float
    c = Ct ⊗ Ct

    inside : T (is_fraction FTE && is_fraction FTM && is_fraction Ct) → T (finite (through FTE FTM c) && finite (back FTE FTM c)) → NotBelow0 (factors (through FTE FTM c) (back FTE FTM c))
    inside r g =
        let r2 = and_l (is_fraction FTE && is_fraction FTM) (is_fraction Ct) r in
        let e = fraction FTE (and_l (is_fraction FTE) (is_fraction FTM) r2) in
        let m = fraction FTM (and_r (is_fraction FTE) (is_fraction FTM) r2) in
        let t = fraction Ct (and_r (is_fraction FTE && is_fraction FTM) (is_fraction Ct) r) in
        let c_is : Bounded +1 c = bounded_step +1 _ (bounded_mul Ct Ct t.most t.most) in (
          le_nonneg (through FTE FTM c) (and_l (finite (through FTE FTM c)) (finite (back FTE FTM c)) g) (nonneg_step _ (nonneg_add (through_part FTE c) (through_part FTM c) (nonneg_through FTE c e.most c_is) (nonneg_through FTM c m.most c_is))),
          le_nonneg (back FTE FTM c) (and_r (finite (through FTE FTM c)) (finite (back FTE FTM c)) g) (nonneg_step _ (nonneg_add (back_part FTE c) (back_part FTM c) (nonneg_back FTE c e c_is) (nonneg_back FTM c m c_is))),
        )
