-- Sizes and signs of doubles: sums and quotients of what is not below zero, and 1 more or less what lies from -1 to 1.
use mathlib.Core.Bool.{Bool, true, false, not, cond, beq}
use mathlib.Core.Path.{◌≡◌, refl, sym, ap, ◌∙◌, subst}
use Prim.Native.Nat.{ℕ, zero, suc, ◌+◌, ◌-◌, ◌*◌, ◌≤◌, ◌<◌, zero-le}
use native.Mathlib.Nat.{le_trans, le_of_eq, zero-mul, mul-pos, mul-le-mul, zero-lt-suc, suc-ne-zero}
use native.Mathlib.Omega.{arith}
use lib.Dec.{T, ltb, eqb, lt→ltb}
use lib.Ieee.{Float, nan, inf, fin, binary64, unlike, up, down, round, sum, neg, add, sub, mul, div, le}
use lib.Ieee.Fits.{up_pos, down_pos, and_i, eq→eqb}
use lib.Ieee.Order.{le_of_values}
use lib.Ieee.Positive.{le→cross}
use lib.Ieee.Scale.{finite}
use lib.IntN.{ℤ, pos}
use Rattle.steps.specs.Step.{step, +0, +1}
use Rattle.steps.proofs.SignLaws.{NonNeg, nonneg_round}
use Rattle.steps.proofs.SizeLaws.{Within, round_one, round_within}
use Rattle.steps.proofs.StepLaws.{step_finite, mul_finite}
use Rattle.pane.specs.Factors.{two}

-- ---- sizes

-- x, where it is a number, is no larger than v
abbrev pub Bounded : (v x : Float) → Type 0
Bounded v x = T (finite x) → Within x v

-- a step is its number, or none
pub bounded_step : (v x : Float) → Bounded v x → Bounded v (step x)
bounded_step v x b h = let s = step_finite x h in subst (λ (z : Float). Within z v) (sym s.0) (b s.1)

-- a product of sizes up to 1
product : (x y : Float) → Within x +1 → Within y +1 → Within (mul binary64 x y) +1
unfolding mul
product nan y h k = absurd h.is_finite
product (inf s) y h k = absurd h.is_finite
product (fin s m e) nan h k = absurd k.is_finite
product (fin s m e) (inf t) h k = absurd k.is_finite
product (fin s m e) (fin t n d) h k =
    let p : m * up e ≤ down e = omega (arith, h.cross) in
    let q : n * up d ≤ down d = omega (arith, k.cross) in
    round_one binary64 (unlike s t) (m * up e * (n * up d)) (down e * down d) (mul-pos (down_pos e) (down_pos d)) (mul-le-mul p q)

pub bounded_mul : (x y : Float) → Bounded +1 x → Bounded +1 y → Bounded +1 (mul binary64 x y)
bounded_mul x y p q h = let g = mul_finite binary64 x y h in product x y (p g.0) (q g.1)

-- twice a size up to 1
two_is : round binary64 false 2 1 ≡ two
unfolding round
two_is = refl

twice : (x : Float) → Within x +1 → Within (mul binary64 two x) two
unfolding mul
twice nan h = absurd h.is_finite
twice (inf s) h = absurd h.is_finite
twice (fin s m e) h =
    let a = 1 * 2 * (m * up e) in
    let c = 1 * down e in
    let C : 0 < c = mul-pos (zero-lt-suc 0) (down_pos e) in
    let l : a * 1 ≤ 2 * c = omega (arith, h.cross) in
    subst (Within (round binary64 (unlike false s) a c)) two_is (round_within binary64 (unlike false s) false a c 2 1 C (zero-lt-suc 0) l (subst (λ (z : Float). T (finite z)) (sym two_is) tt))

pub bounded_twice : (x : Float) → Bounded +1 x → Bounded two (mul binary64 two x)
bounded_twice x p h = twice x (p (mul_finite binary64 two x h).1)

-- ---- signs

-- one of two
either : (b : Bool) (x y : Float) → NonNeg x → NonNeg y → NonNeg (cond b x y)
either true x y p q = p
either false x y p q = q

-- either zero
nonneg_zero : (s : Bool) → NonNeg (fin s 0 (pos 0))
nonneg_zero true = refl
nonneg_zero false = tt

-- a product with nothing
none : (m k j : ℕ) → m ≡ 0 → m * k * j ≡ 0
none m k j z = ap (λ (n : ℕ). n * k * j) z ∙ ap (λ (n : ℕ). n * j) (zero-mul k) ∙ zero-mul j

-- what has a sign and is not below zero is a zero
signless : (s : Bool) (m : ℕ) (e : ℤ) (j : ℕ) → NonNeg (fin s m e) → T s → m * up e * j ≡ 0
signless true m e j p u = none m (up e) j p
signless false m e j p u = absurd u

-- a quotient
pub nonneg_div : (x y : Float) → NonNeg x → NonNeg y → NonNeg (div binary64 x y)
unfolding div
nonneg_div nan y p q = tt
nonneg_div (inf s) nan p q = tt
nonneg_div (inf s) (inf t) p q = tt
nonneg_div (inf s) (fin t n d) p q = tt
nonneg_div (fin s m e) nan p q = tt
nonneg_div (fin s m e) (inf t) p q = nonneg_zero (unlike s t)
nonneg_div (fin s m e) (fin t zero d) p q = either (eqb m 0) nan (inf (unlike s t)) tt tt
nonneg_div (fin s m e) (fin true (suc n) d) p q = absurd (suc-ne-zero n q)
nonneg_div (fin s m e) (fin false (suc n) d) p q =
    either (eqb (suc n) 0) (cond (eqb m 0) nan (inf (unlike s false))) (round binary64 (unlike s false) (m * up e * down d) (suc n * up d * down e)) (either (eqb m 0) nan (inf (unlike s false)) tt tt)
    (nonneg_round binary64 (unlike s false) (m * up e * down d) (suc n * up d * down e) (mul-pos (mul-pos (zero-lt-suc n) (up_pos d)) (down_pos e)) (λ u. signless s m e (down d) p (own s u)))
  where
    own : (s : Bool) → T (unlike s false) → T s
    own true u = tt
    own false u = absurd u

-- ±a / c + ±b / c, where b takes no more away than a
nonneg_sum : (s : Bool) (a : ℕ) (t : Bool) (b c : ℕ) → 0 < c → (T s → a ≡ 0) → (T t → b ≤ a) → NonNeg (sum binary64 s a t b c)
unfolding sum
nonneg_sum false a false b c C h k = nonneg_round binary64 false (a + b) c C (λ u. absurd u)
nonneg_sum true a true b c C h k = nonneg_round binary64 true (a + b) c C (λ u. let z = h tt in let l = k tt in omega arith)
nonneg_sum true a false b c C h k =
    either (ltb a b) (round binary64 false (b - a) c) (round binary64 (ltb b a) (a - b) c) (nonneg_round binary64 false (b - a) c C (λ u. absurd u))
    (nonneg_round binary64 (ltb b a) (a - b) c C (λ u. let z = h tt in omega arith))
nonneg_sum false a true b c C h k =
    either (ltb a b) (round binary64 true (b - a) c) (round binary64 false (a - b) c) (nonneg_round binary64 true (b - a) c C (λ u. let l = k tt in omega arith))
    (nonneg_round binary64 false (a - b) c C (λ u. absurd u))

-- a sum
pub nonneg_add : (x y : Float) → NonNeg x → NonNeg y → NonNeg (add binary64 x y)
unfolding add
nonneg_add nan y p q = tt
nonneg_add (inf s) nan p q = tt
nonneg_add (inf s) (inf t) p q = either (beq s t) (inf s) nan tt tt
nonneg_add (inf s) (fin t n d) p q = tt
nonneg_add (fin s m e) nan p q = tt
nonneg_add (fin s m e) (inf t) p q = tt
nonneg_add (fin s m e) (fin t n d) p q =
    nonneg_sum s (m * up e * down d) t (n * up d * down e) (down e * down d) (mul-pos (down_pos e) (down_pos d)) (signless s m e (down d) p)
    (λ u. le_trans (le_of_eq (signless t n d (down e) q u)) zero-le)

-- 1 more and 1 less what lies from -1 to 1
pub nonneg_more : (y : Float) → Bounded +1 y → NonNeg (add binary64 +1 y)
unfolding add
nonneg_more nan b = tt
nonneg_more (inf t) b = tt
nonneg_more (fin t n d) b = nonneg_sum false (1 * 1 * down d) t (n * up d * 1) (1 * down d) (mul-pos (zero-lt-suc 0) (down_pos d)) (λ u. absurd u) (λ u. (b tt).cross)

pub nonneg_less : (y : Float) → Bounded +1 y → NonNeg (sub binary64 +1 y)
unfolding sub neg
nonneg_less nan b = nonneg_more nan b
nonneg_less (inf t) b = nonneg_more (inf (not t)) (λ h. absurd h)
nonneg_less (fin t n d) b = nonneg_more (fin (not t) n d) (λ h. record { is_finite = tt; cross = (b tt).cross })

-- 1 less what lies from 0 to 2 lies from -1 to 1
pub bounded_less : (y : Float) → NonNeg y → Bounded two y → Bounded +1 (sub binary64 +1 y)
unfolding sub neg add sum
bounded_less nan p b h = absurd h
bounded_less (inf t) p b h = absurd h
bounded_less (fin true n d) p b h =
    let z : n * up d * 1 ≡ 0 = signless true n d 1 p tt in
    round_one binary64 false (1 * 1 * down d + n * up d * 1) (1 * down d) (mul-pos (zero-lt-suc 0) (down_pos d)) (omega arith)
bounded_less (fin false n d) p b h =
    let l : n * up d * 1 ≤ 1 * 2 * down d = (b tt).cross in
    let C : 0 < 1 * down d = mul-pos (zero-lt-suc 0) (down_pos d) in
    go (ltb (1 * 1 * down d) (n * up d * 1)) (round_one binary64 true (n * up d * 1 - 1 * 1 * down d) (1 * down d) C (omega arith)) (round_one binary64 false (1 * 1 * down d - n * up d * 1) (1 * down d) C (omega arith))
  where
    go : (k : Bool) {x y : Float} → Within x +1 → Within y +1 → Within (cond k x y) +1
    go true v w = v
    go false v w = w

-- ---- by the order of values

-- from 0 to 1
pub bounded_le : (x : Float) → NonNeg x → T (le x +1) → Bounded +1 x
bounded_le nan p h f = absurd f
bounded_le (inf s) p h f = absurd f
bounded_le (fin true m e) p h f = record { is_finite = tt; cross = le_trans (le_of_eq (none m (up e) 1 p)) zero-le }
bounded_le (fin false zero e) p h f = record { is_finite = tt; cross = le_trans (le_of_eq (none zero (up e) 1 refl)) zero-le }
bounded_le (fin false (suc m) e) p h f = record { is_finite = tt; cross = le→cross (fin false (suc m) e) +1 (lt→ltb 0 (suc m) (zero-lt-suc m)) tt h }

-- a number that is not below zero
pub le_nonneg : (x : Float) → T (finite x) → NonNeg x → T (le +0 x)
unfolding le
le_nonneg nan f p = absurd f
le_nonneg (inf s) f p = absurd f
le_nonneg (fin true m e) f p =
    let z : 0 * down e ≡ 0 = zero-mul (down e) in
    and_i (eqb (0 * down e) (m * up e * 1)) (eqb (0 * down e) 0) (eq→eqb (z ∙ sym (none m (up e) 1 p))) (eq→eqb z)
le_nonneg (fin false m e) f p = le_of_values +0 (fin false m e) 0 1 (m * up e) (down e) (zero-lt-suc 0) (down_pos e) (refl, refl) (refl, refl) (le_trans (le_of_eq (zero-mul (down e))) zero-le)
