-- A coefficient below the limit times or over an exact power of ten is the double nearest to the product or the quotient.
use mathlib.Core.Bool.{Bool, true, false, cond, and-false, or-true}
use mathlib.Core.Path.{◌≡◌, refl, sym, ap, ◌∙◌}
use Prim.Native.Nat.{ℕ, zero, suc, ◌+◌, ◌-◌, ◌*◌, ◌^◌, ◌≤◌, ◌<◌, min}
use native.Mathlib.Nat.{one-mul, mul_assoc, zero-mul, zero-lt-suc, mul-pos, pow-suc}
use native.Mathlib.Omega.{arith}
use borrow.Author.Tests.{lt-ltb, le-ltb, le-leb, lt-leb, eq-eqb, ne_eqb}
use lib.Ieee.{Float, fin, binary64, round, neg, mul, div}
use lib.Ieee.Back.{round_whole}
use lib.Ieee.Exact.{HasValue}
use lib.Ieee.Scale.{round_same}
use lib.IntN.{pos}
use lib.Pow.{pow-add}
use Rattle.steps.proofs.DoubleLaws.{mul_val, div_val, neg_round, round_zero}
use Rattle.laws.proofs.NatLaws.{cut}
use Rattle.std.specs.Prelude.{Option, Some, None, ok_or}
use Rattle.numeral.specs.Exactly.{Exactly}
use Rattle.numeral.specs.declared.NumeralError.TheVariants.{TooLarge}
use Rattle.numeral.specs.Numeral.{answer_of, value, refusal, in_range, nearest, number_of}
use Rattle.numeral_parts.specs.Saturated.{limit}

pub ten_pos : (k : ℕ) → 0 < 10 ^ k
ten_pos zero = zero-lt-suc 0
ten_pos (suc k) = rw pow-suc (mul-pos (ten_pos k) (zero-lt-suc 9))

-- ---- the nearest double

module _ (c k : ℕ) (y : Float) (h : c ≤ 2 ^ 53) (v : HasValue y false (10 ^ k) 1) where
  pub nearest_times : mul binary64 (round binary64 false c 1) y ≡ nearest false c k 0
  unfolding nearest
  nearest_times = mul_val binary64 (round binary64 false c 1) y false false c 1 (10 ^ k) 1 (zero-lt-suc 0) (zero-lt-suc 0) (round_whole binary64 false c h) v

  pub nearest_over : div binary64 (round binary64 false c 1) y ≡ nearest false c 0 k
  unfolding nearest
  nearest_over =
      div_val binary64 (round binary64 false c 1) y false false c 1 (10 ^ k) 1 (zero-lt-suc 0) (zero-lt-suc 0) (ten_pos k) (round_whole binary64 false c h) v
      ∙ ap (round binary64 false (c * 1)) (one-mul (10 ^ k))

-- only the power counts, not how it is split
same_power : (s : Bool) (c up down up' down' : ℕ) → up + down' ≡ up' + down → nearest s c up down ≡ nearest s c up' down'
unfolding nearest
same_power s c up down up' down' e =
    round_same binary64 s (c * 10 ^ up) (10 ^ down) (c * 10 ^ up') (10 ^ down') (ten_pos down) (ten_pos down')
    (mul_assoc c (10 ^ up) (10 ^ down') ∙ ap (λ (n : ℕ). c * n) (sym (pow-add 10 up down') ∙ ap (λ (n : ℕ). 10 ^ n) e ∙ pow-add 10 up' down) ∙ sym (mul_assoc c (10 ^ up') (10 ^ down)))

pub nearest_zero : (s : Bool) (up down : ℕ) → nearest s 0 up down ≡ fin s 0 (pos 0)
unfolding nearest
nearest_zero s up down = ap (λ (n : ℕ). round binary64 s n (10 ^ down)) (zero-mul (10 ^ up)) ∙ round_zero binary64 s (10 ^ down) (ten_pos down)

-- a change of sign goes through the rounding
pub nearest_sign : (s : Bool) (c up down : ℕ) → cond s (neg (nearest false c up down)) (nearest false c up down) ≡ nearest s c up down
unfolding nearest
nearest_sign true c up down = neg_round binary64 false (c * 10 ^ up) (10 ^ down)
nearest_sign false c up down = refl

-- ---- the range

module _ (s : Bool) (c up down : ℕ) where
  pub too_many : limit ≤ c → refusal 15 ≡ number_of s c up down
  unfolding number_of in_range
  too_many h = rw (le-ltb c limit h)

  module _ (z : c ≡ 0 → ⊥) where
    pub too_high : 22 < up - down → refusal 15 ≡ number_of s c up down
    unfolding number_of in_range
    too_high h = rw (ne_eqb c 0 z, lt-leb up (down + 22) (omega arith), and-false)

    pub too_low : 22 < down - up → refusal 15 ≡ number_of s c up down
    unfolding number_of in_range
    too_low h = rw (ne_eqb c 0 z, lt-leb down (up + 22) (omega arith), and-false, and-false)

  module _ (y : Float) (h : c < limit) where
    signed : in_range c up down ≡ true → (x : Float) → x ≡ nearest false c up down → y ≡ cond s (neg x) x → value y ≡ number_of s c up down
    unfolding number_of
    signed r x e t = rw r (ap value (t ∙ ap (λ (x : Float). cond s (neg x) x) e ∙ nearest_sign s c up down))

    within : up ≤ down + 22 → down ≤ up + 22 → in_range c up down ≡ true
    unfolding in_range
    within p q = rw (lt-ltb c limit h, le-leb up (down + 22) p, le-leb down (up + 22) q, or-true)

    pub number_up : down ≤ up → up - down ≤ 22 → (x : Float) → x ≡ nearest false c (up - down) 0 → y ≡ cond s (neg x) x → value y ≡ number_of s c up down
    number_up l k x e = signed (within (omega arith) (omega arith)) x (e ∙ same_power false c (up - down) 0 up down (omega arith))

    pub number_down : up ≤ down → down - up ≤ 22 → (x : Float) → x ≡ nearest false c 0 (down - up) → y ≡ cond s (neg x) x → value y ≡ number_of s c up down
    number_down l k x e = signed (within (omega arith) (omega arith)) x (e ∙ same_power false c 0 (down - up) up down (omega arith))

    no_power : c ≡ 0 → in_range c up down ≡ true
    unfolding in_range
    no_power z = rw (lt-ltb c limit h, eq-eqb c 0 z)

    pub number_zero : c ≡ 0 → y ≡ cond s (neg (fin false 0 (pos 0))) (fin false 0 (pos 0)) → value y ≡ number_of s c up down
    number_zero z = signed (no_power z) (fin false 0 (pos 0)) (sym (ap (λ (n : ℕ). nearest false n up down) z ∙ nearest_zero false up down))

  -- where the coefficient is not 0, no value means that it is too large
  pub exact_answer : (r : Option Float) → Exactly s c up down r → (c ≡ 0 → ⊥) → answer_of (ok_or r TooLarge) ≡ number_of s c up down
  exact_answer (Some x) e z = e
  exact_answer None e z = e z

-- a coefficient past the limit is as good as the limit
pub number_capped : (s : Bool) (c up down : ℕ) → number_of s (min limit c) up down ≡ number_of s c up down
number_capped s c up down =
    let e : min limit c ≡ min c limit = omega arith in
    ap (λ (n : ℕ). number_of s n up down) e ∙ cut (λ (n : ℕ). number_of s n up down) c limit (λ h. sym (too_many s limit up down (omega arith)) ∙ too_many s c up down (omega arith))
