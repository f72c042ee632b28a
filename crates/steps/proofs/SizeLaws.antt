-- Monotone rounding: what is no larger rounds to no more. A difference is no larger than the sum, and their quotient no larger than 1.
use mathlib.Core.Bool.{Bool, true, false, not, cond, ◌&&◌, ◌||◌}
use mathlib.Core.Path.{◌≡◌, refl, sym, ap, ◌∙◌, subst}
use Prim.Native.Nat.{ℕ, zero, suc, ◌+◌, ◌-◌, ◌*◌, ◌≤◌, ◌<◌}
use borrow.Author.Tests.{ne_eqb}
use native.Mathlib.Nat.{le_refl, le_trans, le_of_eq, mul-one, one-mul, zero-mul, mul-pos, mul-le-mul_right, zero-lt-suc, suc-ne-zero}
use native.Mathlib.Omega.{arith}
use lib.Dec.{T, ltb, eqb, ltb→lt, nltb→le, eqb→eq}
use lib.Ieee.{Float, nan, inf, fin, Format, binary32, binary64, unlike, up, down, round, sum, neg, add, sub, div, le}
use lib.Ieee.Fits.{up_pos, down_pos}
use lib.Ieee.Order.{round_mono}
use lib.Ieee.Positive.{num, den}
use lib.Ieee.Scale.{finite}
use lib.IntN.{ℤ}
use Rattle.steps.specs.Step.{+1}
use Rattle.steps.proofs.DoubleLaws.{signed_round}
use Rattle.steps.proofs.SignLaws.{NonNeg, abs}

-- x is finite and no larger than y, whatever their signs
pub record Within (x y : Float) : Type 0 where
  pub is_finite : T (finite x)
  pub cross : num x * den y ≤ num y * den x

lt_or_eq : (a b : ℕ) → T (ltb a b || (eqb a b && true)) → a ≤ b
lt_or_eq a b t = go (ltb a b) (eqb a b) (ltb→lt a b) (eqb→eq a b) t
  where
    go : (x y : Bool) → (T x → a < b) → (T y → a ≡ b) → T (x || (y && true)) → a ≤ b
    go true y h k t = let l : a < b = h tt in omega arith
    go false true h k t = le_of_eq (k tt)
    go false false h k t = absurd t

within : (x y : Float) → T (finite y) → T (le (abs x) (abs y)) → Within x y
unfolding le
within nan y f h = absurd h
within (inf s) nan f h = absurd f
within (inf s) (inf t) f h = absurd f
within (inf s) (fin t n d) f h = absurd h
within (fin s m e) nan f h = absurd f
within (fin s m e) (inf t) f h = absurd f
within (fin s m e) (fin t n d) f h = record { is_finite = tt; cross = lt_or_eq (m * up e * down d) (n * up d * down e) h }

pub abs_round : (f : Format) (s : Bool) (a c : ℕ) → abs (round f s a c) ≡ round f false a c
abs_round = signed_round (λ s. false)

-- ---- two roundings, by sizes
pub round_within : (f : Format) (s t : Bool) (a b c d : ℕ) → 0 < b → 0 < d → a * d ≤ c * b → T (finite (round f t c d)) → Within (round f s a b) (round f t c d)
round_within f s t a b c d B D h g =
    within (round f s a b) (round f t c d) g
    (subst (λ (z : Float). T (le z (abs (round f t c d)))) (sym (abs_round f s a b))
    (subst (λ (z : Float). T (le (round f false a b) z)) (sym (abs_round f t c d)) (round_mono f a b c d B D h)))

-- ---- ±a / c + ±b / c is a rounding of no more than a + b, and of just that where neither is below zero
record Sum (f : Format) (s : Bool) (a : ℕ) (t : Bool) (b c : ℕ) (x : Float) : Type 0 where
  sign : Bool
  size : ℕ
  is : x ≡ round f sign size c
  small : size ≤ a + b
  whole : (T s → a ≡ 0) → (T t → b ≡ 0) → size ≡ a + b

apart : (f : Format) (s t : Bool) (a b c : ℕ) → (u : Bool) × (cond (ltb a b) (round f t (b - a) c) (round f (s && ltb b a) (a - b) c) ≡ round f u (a - b + (b - a)) c)
apart f s t a b c = go (ltb a b) (ltb→lt a b) (nltb→le a b)
  where
    go : (k : Bool) → (T k → a < b) → (T (not k) → b ≤ a) → (u : Bool) × (cond k (round f t (b - a) c) (round f (s && ltb b a) (a - b) c) ≡ round f u (a - b + (b - a)) c)
    go true h g = (t, ap (λ (n : ℕ). round f t n c) (let l : a < b = h tt in omega arith))
    go false h g = (s && ltb b a, ap (λ (n : ℕ). round f (s && ltb b a) n c) (let l : b ≤ a = g tt in omega arith))

sum_is : (f : Format) (s : Bool) (a : ℕ) (t : Bool) (b c : ℕ) → Sum f s a t b c (sum f s a t b c)
unfolding sum
sum_is f true a true b c = record { sign = true; size = a + b; is = refl; small = le_refl (a + b); whole = λ h k. refl }
sum_is f false a false b c = record { sign = false; size = a + b; is = refl; small = le_refl (a + b); whole = λ h k. refl }
sum_is f true a false b c =
    let r = apart f true false a b c in
    record { sign = r.0; size = a - b + (b - a); is = r.1; small = omega arith; whole = λ h k. let z : a ≡ 0 = h tt in omega arith }
sum_is f false a true b c =
    let r = apart f false true a b c in
    record { sign = r.0; size = a - b + (b - a); is = r.1; small = omega arith; whole = λ h k. let z : b ≡ 0 = k tt in omega arith }

empty : (s : Bool) (m : ℕ) (e d : ℤ) → NonNeg (fin s m e) → T s → m * up e * down d ≡ 0
empty true m e d h t = ap (λ (k : ℕ). k * up e * down d) h ∙ ap (λ (k : ℕ). k * down d) (zero-mul (up e)) ∙ zero-mul (down d)
empty false m e d h t = absurd t

-- |a - b| ≤ a + b, rounded, for a and b that are not below zero
pub difference : (f : Format) (x y : Float) → NonNeg x → NonNeg y → T (finite x) → T (finite y) → T (finite (add f x y)) → Within (sub f x y) (add f x y)
unfolding add sub neg
difference f nan y p q a b g = elim a [ ]
difference f (inf _) y p q a b g = elim a [ ]
difference f (fin s m e) nan p q a b g = elim b [ ]
difference f (fin s m e) (inf _) p q a b g = elim b [ ]
difference f (fin s m e) (fin t n d) p q a b g =
    let A = m * up e * down d in
    let B = n * up d * down e in
    let C = down e * down d in
    let C-pos : 0 < C = mul-pos (down_pos e) (down_pos d) in
    let less = sum_is f s A (not t) B C in
    let more = sum_is f s A t B C in
    let more_is : sum f s A t B C ≡ round f more.sign (A + B) C = more.is ∙ ap (λ (k : ℕ). round f more.sign k C) (more.whole (empty s m e d p) (empty t n d e q)) in
    subst (λ (z : Float). Within z (sum f s A t B C)) (sym less.is)
    (subst (λ (z : Float). Within (round f less.sign less.size C) z) (sym more_is)
    (round_within f less.sign more.sign less.size C (A + B) C C-pos C-pos (mul-le-mul_right C less.small) (subst (λ (z : Float). T (finite z)) more_is g)))

-- ---- the quotient of a size by one that is no smaller is at most 1
one_is : (f : Format) → round f false 1 1 ≡ +1
unfolding round
one_is binary32 = refl
one_is binary64 = refl

pub round_one : (f : Format) (s : Bool) (a c : ℕ) → 0 < c → a ≤ c → Within (round f s a c) +1
round_one f s a c C h =
    subst (Within (round f s a c)) (one_is f)
    (round_within f s false a c 1 1 C (zero-lt-suc 0) (le_trans (le_of_eq (mul-one a)) (le_trans h (le_of_eq (sym (one-mul c))))) (subst (λ (z : Float). T (finite z)) (sym (one_is f)) tt))

pub quotient : (f : Format) (x y : Float) → Within x y → T (finite y) → (num y ≡ 0 → ⊥) → Within (div f x y) +1
unfolding div
quotient f nan y w g z = absurd w.is_finite
quotient f (inf s) y w g z = absurd w.is_finite
quotient f (fin s m e) nan w g z = absurd g
quotient f (fin s m e) (inf t) w g z = absurd g
quotient f (fin s m e) (fin t zero d) w g z = absurd (z (zero-mul (up d)))
quotient f (fin s m e) (fin t (suc n) d) w g z =
    subst (λ (b : Bool). Within (cond b (cond (eqb m 0) nan (inf (unlike s t))) (round f (unlike s t) (m * up e * down d) (suc n * up d * down e))) +1) (sym (ne_eqb (suc n) 0 (suc-ne-zero n)))
    (round_one f (unlike s t) (m * up e * down d) (suc n * up d * down e) (mul-pos (mul-pos (zero-lt-suc n) (up_pos d)) (down_pos e)) w.cross)
