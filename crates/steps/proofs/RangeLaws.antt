-- From 0 to 1: the square of a value from -1 to 1, and the mean of two values from 0 to 1.
use mathlib.Core.Bool.{Bool, true, false}
use mathlib.Core.Path.{◌≡◌, refl, sym, ap, ◌∙◌, subst}
use Prim.Native.Nat.{ℕ, ◌+◌, ◌*◌, ◌≤◌, ◌<◌, zero-le}
use native.Mathlib.Nat.{le_refl, le_trans, le_of_eq, mul-one, one-mul, zero-mul, mul_comm, mul_assoc, mul_left_comm, mul-pos, mul-le-mul, mul-le-mul_right, zero-lt-suc}
use native.Mathlib.Omega.{arith}
use lib.Dec.{T}
use lib.Ieee.{Float, nan, inf, fin, Format, binary32, binary64, up, down, round, sum, add, mul, le}
use lib.Ieee.Fits.{down_pos}
use lib.Ieee.Order.{le_of_values}
use lib.Ieee.Scale.{finite}
use Rattle.steps.specs.Step.{+0, +1, half}
use Rattle.steps.proofs.SignLaws.{abs}
use Rattle.steps.proofs.SizeLaws.{Within, abs_round, round_one, round_within}

-- x is finite, without a sign, and no larger than v
pub record UpTo (v x : Float) : Type 0 where
  pub unsigned : abs x ≡ x
  pub within : Within x v

round_up_to_one : (f : Format) (a c : ℕ) → 0 < c → a ≤ c → UpTo +1 (round f false a c)
round_up_to_one f a c C h = record { unsigned = abs_round f false a c; within = round_one f false a c C h }

half_is : (f : Format) → round f false 1 2 ≡ half
unfolding round
half_is binary32 = refl
half_is binary64 = refl

round_up_to_half : (f : Format) (a c : ℕ) → 0 < c → a * 2 ≤ c → UpTo half (round f false a c)
round_up_to_half f a c C h = record {
  unsigned = abs_round f false a c;
  within =
      subst (Within (round f false a c)) (half_is f)
      (round_within f false false a c 1 2 C (zero-lt-suc 1) (le_trans h (le_of_eq (sym (one-mul c)))) (subst (λ (z : Float). T (finite z)) (sym (half_is f)) tt));
}

-- ---- the square of a value from -1 to 1
up_to_one : (m : ℕ) (up down : ℕ) → m * up * 1 ≤ 1 * 1 * down → m * up ≤ down
up_to_one m up down h = le_trans (le_of_eq (sym (mul-one (m * up)))) (le_trans h (le_of_eq (one-mul down)))

pub square : (f : Format) (q : Float) → Within q +1 → UpTo +1 (mul f q q)
unfolding mul
square f nan h = absurd h.is_finite
square f (inf s) h = absurd h.is_finite
square f (fin s m e) h = go s
  where
    size : m * up e * (m * up e) ≤ down e * down e
    size = mul-le-mul (up_to_one m (up e) (down e) h.cross) (up_to_one m (up e) (down e) h.cross)

    go : (s : Bool) → UpTo +1 (mul f (fin s m e) (fin s m e))
    go true = round_up_to_one f (m * up e * (m * up e)) (down e * down e) (mul-pos (down_pos e) (down_pos e)) size
    go false = round_up_to_one f (m * up e * (m * up e)) (down e * down e) (mul-pos (down_pos e) (down_pos e)) size

-- ---- the mean of two values from 0 to 1
halved : (f : Format) (x : Float) → Within x +1 → UpTo half (mul f half (abs x))
unfolding mul
halved f nan h = absurd h.is_finite
halved f (inf s) h = absurd h.is_finite
halved f (fin s m e) h =
    round_up_to_half f (1 * 1 * (m * up e)) (2 * down e) (mul-pos (zero-lt-suc 1) (down_pos e))
    (le_trans (le_of_eq (ap (λ (k : ℕ). k * 2) (one-mul (m * up e)) ∙ mul_comm (m * up e) 2)) (mul-le-mul (le_refl 2) (up_to_one m (up e) (down e) h.cross)))

halves : (a b x y : ℕ) → a * 2 ≤ 1 * 1 * x → b * 2 ≤ 1 * 1 * y → a * y + b * x ≤ x * y
halves a b x y h k =
    let p : a * 2 * y ≤ x * y = mul-le-mul_right y (le_trans h (le_of_eq (one-mul x))) in
    let q : b * 2 * x ≤ y * x = mul-le-mul_right x (le_trans k (le_of_eq (one-mul y))) in
    let p' : a * 2 * y ≡ a * y * 2 = simp (mul_assoc, mul_comm, mul_left_comm) in
    let q' : b * 2 * x ≡ b * x * 2 = simp (mul_assoc, mul_comm, mul_left_comm) in
    let c : y * x ≡ x * y = mul_comm y x in
    omega arith

add_halves : (f : Format) (x y : Float) → Within x half → Within y half → UpTo +1 (add f (abs x) (abs y))
unfolding add sum
add_halves f nan y h k = absurd h.is_finite
add_halves f (inf s) y h k = absurd h.is_finite
add_halves f (fin s m e) nan h k = absurd k.is_finite
add_halves f (fin s m e) (inf t) h k = absurd k.is_finite
add_halves f (fin s m e) (fin t n d) h k =
    round_up_to_one f (m * up e * down d + n * up d * down e) (down e * down d) (mul-pos (down_pos e) (down_pos d)) (halves (m * up e) (n * up d) (down e) (down d) h.cross k.cross)

pub mean : (f : Format) (x y : Float) → UpTo +1 x → UpTo +1 y → UpTo +1 (add f (mul f half x) (mul f half y))
mean f x y h k =
    let hx : UpTo half (mul f half x) = subst (λ (z : Float). UpTo half (mul f half z)) h.unsigned (halved f x h.within) in
    let hy : UpTo half (mul f half y) = subst (λ (z : Float). UpTo half (mul f half z)) k.unsigned (halved f y k.within) in
    subst (UpTo +1) (λ i. add f (hx.unsigned i) (hy.unsigned i)) (add_halves f (mul f half x) (mul f half y) hx.within hy.within)

-- ---- what it says in the order of values
pub in_order : (x : Float) → UpTo +1 x → T (le +0 x) × T (le x +1)
in_order x h = subst (λ (z : Float). T (le +0 z) × T (le z +1)) h.unsigned (go x h.within)
  where
    go : (x : Float) → Within x +1 → T (le +0 (abs x)) × T (le (abs x) +1)
    go nan w = absurd w.is_finite
    go (inf s) w = absurd w.is_finite
    go (fin s m e) w = (
      le_of_values +0 (fin false m e) 0 1 (m * up e) (down e) (zero-lt-suc 0) (down_pos e) (refl, refl) (refl, refl) (le_trans (le_of_eq (zero-mul (down e))) zero-le),
      le_of_values (fin false m e) +1 (m * up e) (down e) 1 1 (down_pos e) (zero-lt-suc 0) (refl, refl) (refl, refl) w.cross,
    )
