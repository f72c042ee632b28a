-- The value of a numeral is one rounding of the exact number, which no range of numerals takes to the limit.
use mathlib.Core.Bool.{Bool, true, false, ◌&&◌, ◌||◌, cond}
use mathlib.Core.Path.{◌≡◌, refl, ap, sym, ◌∙◌, subst}
use Prim.Native.Nat.{ℕ, ◌+◌, ◌*◌, ◌^◌, ◌≤◌, ◌<◌}
use native.Mathlib.Nat.{le_of_eq, le_trans, lt_of_le_of_lt, lt_of_lt_of_le, mul_assoc, mul_comm, mul-le-mul_left, mul-lt-mul_of_pos_right, mul-pos, pow-le-pow_right, zero-lt-suc, zero-mul}
use native.Mathlib.Omega.{arith}
use borrow.Author.Tests.{eqb-true, leb-true, ltb-true}
use lib.Dec.{eqb, leb, lit<, lit≤, ltb}
use lib.Ieee.{Float, binary64, round}
use lib.Pow.{pow-add}
use Rattle.laws.proofs.BoolLaws.{and_left, and_right}
use Rattle.numeral.proofs.TenLaws.{ten_pos}
use Rattle.numeral.specs.Numeral.{coefficient, down, in_range, nearest, number_of, numeral_of, refusal, up, value, well_formed}
use Rattle.nearest.specs.Written.{NumeralLaw, Written}
use Rattle.numeral_parts.specs.Parts.{negative}
use Rattle.rounding.proofs.LimitLaws.{round_rounded}
use Rattle.rounding.proofs.NearestLaws.{nearest_only}
use Rattle.rounding.specs.Nearest.{Nearest, limit}

-- ---- a numeral's number is far below the limit: it is under 10^15 * 10^22

ten_mono : {i j : ℕ} → i ≤ j → 10 ^ i ≤ 10 ^ j
ten_mono h = pow-le-pow_right (zero-lt-suc 9) h

powered : (c up down : ℕ) → c < 10 ^ 15 → up ≤ down + 22 → c * 10 ^ up < limit binary64 * 10 ^ down
powered c up down l h =
    let turned : c * 10 ^ (down + 22) ≡ c * 10 ^ 22 * 10 ^ down = ap (λ (n : ℕ). c * n) (pow-add 10 down 22 ∙ mul_comm (10 ^ down) (10 ^ 22)) ∙ sym (mul_assoc c (10 ^ 22) (10 ^ down)) in
    let most : 10 ^ 15 * 10 ^ 22 ≤ limit binary64 = lit≤ tt in
    let few : c * 10 ^ 22 < limit binary64 = lt_of_lt_of_le (mul-lt-mul_of_pos_right l (ten_pos 22)) most in
    lt_of_le_of_lt (le_trans (mul-le-mul_left c (ten_mono h)) (le_of_eq turned)) (mul-lt-mul_of_pos_right few (ten_pos down))

below : (c up down : ℕ) → in_range c up down ≡ true → c * 10 ^ up < limit binary64 * 10 ^ down
unfolding in_range
below c up down e =
    go (eqb c 0) refl (and_right (ltb c (10 ^ 15)) (eqb c 0 || leb up (down + 22) && leb down (up + 22)) e)
  where
    go : (b : Bool) → eqb c 0 ≡ b → (b || leb up (down + 22) && leb down (up + 22)) ≡ true → c * 10 ^ up < limit binary64 * 10 ^ down
    go true q h = subst (λ (n : ℕ). n < limit binary64 * 10 ^ down) (sym (ap (λ (n : ℕ). n * 10 ^ up) (eqb-true c 0 q) ∙ zero-mul (10 ^ up))) (mul-pos (lit< tt) (ten_pos down))
    go false q h = powered c up down (ltb-true c (10 ^ 15) (and_left (ltb c (10 ^ 15)) (eqb c 0 || leb up (down + 22) && leb down (up + 22)) e)) (leb-true up (down + 22) (and_left (leb up (down + 22)) (leb down (up + 22)) h))

-- ---- the law

value_same : (x y : Float) → value x ≡ value y → x ≡ y
value_same x y e = cc

pub numeral_nearest : NumeralLaw
unfolding numeral_of number_of nearest
numeral_nearest w x e = go (well_formed w) (in_range (coefficient w) (up w) (down w)) refl e
  where
    c : ℕ
    c = coefficient w * 10 ^ up w

    go : (a b : Bool) → in_range (coefficient w) (up w) (down w) ≡ b → cond a (cond b (value (round binary64 (negative w) c (10 ^ down w))) (refusal 15)) (refusal 14) ≡ value x → Written w x
    go true true q h =
        let r = (round_rounded binary64 (negative w) c (10 ^ down w) (ten_pos (down w))).below (below (coefficient w) (up w) (down w) q) in
        let z = value_same (round binary64 (negative w) c (10 ^ down w)) x h in
        record { nearest = subst (Nearest binary64 (negative w) c (10 ^ down w)) z r; only = λ y n. nearest_only binary64 (negative w) c (10 ^ down w) y (ten_pos (down w)) r.is_finite n ∙ z }
    go true false q h = let z : ◌≡◌ {A = ℕ} 0 1 = cc in absurd (omega arith)
    go false b q h = let z : ◌≡◌ {A = ℕ} 0 1 = cc in absurd (omega arith)
