-- A checked step that is finite is the nearest double to the exact result.
use mathlib.Core.Bool.{Bool, true, false, ◌&&◌, cond, not}
use mathlib.Core.Path.{◌≡◌, refl, ap, sym, ◌∙◌, subst}
use Prim.Native.Nat.{ℕ, zero, suc, ◌+◌, ◌-◌, ◌*◌, ◌<◌}
use native.Mathlib.Nat.{mul-pos, zero-lt-suc}
use native.Mathlib.Omega.{arith}
use borrow.Author.Tests.{ltb-false, ltb-true}
use lib.Dec.{T, eqb, eqb-suc-zero, ltb}
use lib.Ieee.{Float, add, binary64, div, down, fin, inf, mul, nan, neg, round, sub, sum, unlike, up}
use lib.Ieee.Fits.{up_pos}
use lib.Ieee.Positive.{den, den_pos, num}
use lib.Ieee.Scale.{finite}
use Rattle.nearest.specs.Stepped.{StepLaw, SumNearest, sum_sign}
use Rattle.rounding.proofs.NearestLaws.{round_nearest}
use Rattle.rounding.specs.Nearest.{Nearest, apart, sign}
use Rattle.steps.specs.Step.{step, ◌⊕◌, ◌⊖◌, ◌⊗◌, ◌⊘◌}

-- a step that is finite is what it checks
checked : (z : Float) → T (finite (step z)) → (step z ≡ z) × T (finite z)
unfolding step
checked z h = go (finite z) refl h
  where
    go : (b : Bool) → finite z ≡ b → T (finite (cond b z nan)) → (cond b z nan ≡ z) × T (finite z)
    go true e k = (refl, k)
    go false e k = absurd k

-- so it is the nearest where what it checks is one rounding
rounded : (s : Bool) (a c : ℕ) → 0 < c → (z : Float) → z ≡ round binary64 s a c → T (finite (step z)) → Nearest binary64 s a c (step z)
rounded s a c l z e h =
    let k = checked z h in
    subst (Nearest binary64 s a c) (sym e ∙ sym k.0) (round_nearest binary64 s a c l (subst (λ (y : Float). T (finite y)) e k.1))

-- ---- sums

-- one rounding, whichever the signs
sum_round : (s : Bool) (a : ℕ) (t : Bool) (b c : ℕ) → sum binary64 s a t b c ≡ round binary64 (sum_sign s a t b) (apart s a (not t) b) c
unfolding sum
sum_round true a true b c = refl
sum_round false a false b c = refl
sum_round true a false b c = go (ltb a b) refl
  where
    go : (p : Bool) → ltb a b ≡ p → cond p (round binary64 false (b - a) c) (round binary64 (true && ltb b a) (a - b) c) ≡ round binary64 (cond p false (true && ltb b a)) (a - b + (b - a)) c
    go true e = ap (λ (n : ℕ). round binary64 false n c) (let l = ltb-true a b e in let z : b - a ≡ a - b + (b - a) = omega arith in z)
    go false e = ap (λ (n : ℕ). round binary64 (true && ltb b a) n c) (let l = ltb-false a b e in let z : a - b ≡ a - b + (b - a) = omega arith in z)
sum_round false a true b c = go (ltb a b) refl
  where
    go : (p : Bool) → ltb a b ≡ p → cond p (round binary64 true (b - a) c) (round binary64 (false && ltb b a) (a - b) c) ≡ round binary64 (cond p true (false && ltb b a)) (a - b + (b - a)) c
    go true e = ap (λ (n : ℕ). round binary64 true n c) (let l = ltb-true a b e in let z : b - a ≡ a - b + (b - a) = omega arith in z)
    go false e = ap (λ (n : ℕ). round binary64 (false && ltb b a) n c) (let l = ltb-false a b e in let z : a - b ≡ a - b + (b - a) = omega arith in z)

add_nearest : (x y : Float) → T (finite x) → T (finite y) → T (finite (x ⊕ y)) → SumNearest x y (sign y) (x ⊕ y)
unfolding add
add_nearest nan y h k f = absurd h
add_nearest (inf s) y h k f = absurd h
add_nearest (fin s m e) nan h k f = absurd k
add_nearest (fin s m e) (inf t) h k f = absurd k
add_nearest (fin s m e) (fin t n d) h k f =
    let a = m * up e * down d in
    let b = n * up d * down e in
    let c = down e * down d in
    rounded (sum_sign s a t b) (apart s a (not t) b) c (mul-pos (den_pos (fin s m e)) (den_pos (fin t n d))) (sum binary64 s a t b c) (sum_round s a t b c) f

sub_nearest : (x y : Float) → T (finite x) → T (finite y) → T (finite (x ⊖ y)) → SumNearest x y (not (sign y)) (x ⊖ y)
unfolding sub neg add
sub_nearest nan y h k f = absurd h
sub_nearest (inf s) y h k f = absurd h
sub_nearest (fin s m e) nan h k f = absurd k
sub_nearest (fin s m e) (inf t) h k f = absurd k
sub_nearest (fin s m e) (fin t n d) h k f =
    let a = m * up e * down d in
    let b = n * up d * down e in
    let c = down e * down d in
    rounded (sum_sign s a (not t) b) (apart s a (not (not t)) b) c (mul-pos (den_pos (fin s m e)) (den_pos (fin t n d))) (sum binary64 s a (not t) b c) (sum_round s a (not t) b c) f

-- ---- products and quotients

mul_nearest : (x y : Float) → T (finite x) → T (finite y) → T (finite (x ⊗ y)) → Nearest binary64 (unlike (sign x) (sign y)) (num x * num y) (den x * den y) (x ⊗ y)
unfolding mul
mul_nearest nan y h k f = absurd h
mul_nearest (inf s) y h k f = absurd h
mul_nearest (fin s m e) nan h k f = absurd k
mul_nearest (fin s m e) (inf t) h k f = absurd k
mul_nearest (fin s m e) (fin t n d) h k f = rounded (unlike s t) (m * up e * (n * up d)) (down e * down d) (mul-pos (den_pos (fin s m e)) (den_pos (fin t n d))) (mul binary64 (fin s m e) (fin t n d)) refl f

div_nearest : (x y : Float) → T (finite x) → T (finite y) → T (finite (x ⊘ y)) → Nearest binary64 (unlike (sign x) (sign y)) (num x * den y) (num y * den x) (x ⊘ y)
unfolding div
div_nearest nan y h k f = absurd h
div_nearest (inf s) y h k f = absurd h
div_nearest (fin s m e) nan h k f = absurd k
div_nearest (fin s m e) (inf t) h k f = absurd k
div_nearest (fin s m e) (fin t zero d) h k f = absurd (none (eqb m 0) f)
  where
    none : (b : Bool) → T (finite (step (cond b nan (inf (unlike s t))))) → ⊥
    none true g = (checked nan g).1
    none false g = (checked (inf (unlike s t)) g).1
div_nearest (fin s m e) (fin t (suc n) d) h k f =
    let a = m * up e * down d in
    let c = suc n * up d * down e in
    rounded (unlike s t) a c (mul-pos (mul-pos (zero-lt-suc n) (up_pos d)) (den_pos (fin s m e))) (div binary64 (fin s m e) (fin t (suc n) d))
    (ap (λ (b : Bool). cond b (cond (eqb m 0) nan (inf (unlike s t))) (round binary64 (unlike s t) a c)) (eqb-suc-zero n)) f

pub steps_nearest : StepLaw
steps_nearest x y h k = record { sum = add_nearest x y h k; difference = sub_nearest x y h k; product = mul_nearest x y h k; quotient = div_nearest x y h k }
