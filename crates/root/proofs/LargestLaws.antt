-- The root of a finite double that is 0 or above is the largest double whose exact square is at most it; below 0 there is none.
use mathlib.Core.Bool.{Bool, true, false, ◌&&◌, ◌||◌, true≢false}
use mathlib.Core.Path.{◌≡◌, refl, sym, ap, ◌∙◌, subst}
use Prim.Native.Nat.{ℕ, zero, suc, ◌+◌, ◌-◌, ◌*◌, ◌/◌, ◌%◌, ◌^◌, ◌≤◌, ◌<◌, zero-le}
use native.Mathlib.Nat.{le_refl, le_trans, le_of_eq, le_of_lt, le_of_suc-le-suc, lt_of_lt_of_le, lt_of_not-le, not-le_of_lt, lt_irrefl, mul-one, one-mul, zero-mul, mul_comm, mul_assoc, mul_left_comm, mul_right_comm, mul-mul-mul_comm, mul-pos, mul-le-mul, mul-le-mul_right, le-mul_of_pos_right, le-div_iff_mul-le, le_of_mul-le-mul_right, mul-lt-mul_of_pos_right, lt_of_mul-lt-mul_right, div-lt_iff_lt-mul, zero-lt-suc}
use native.Mathlib.Omega.{arith}
use borrow.Author.Tests.{lt-ltb}
use lib.Dec.{T, leb, ltb, eqb, leb→le, ltb→lt, eqb→eq, lit<, lit≤}
use lib.Ieee.{Float, nan, inf, fin, binary64, up, down, size, odd, fits, le, lt}
use lib.Ieee.Digits.{size-lt, size_reaches}
use lib.Ieee.Exact.{HasValue, odd_sign}
use lib.Ieee.Fits.{up_pos, down_pos, and_l, and_r, odd-fits}
use lib.Ieee.Order.{le_of_values}
use lib.Ieee.Scale.{finite}
use lib.IntN.{ℤ, pos, negsuc}
use lib.Pow.{pow-add, pow_pos, pow_mono, pow-lt}
use Rattle.steps.specs.Step.{+0}
use Rattle.root.specs.Largest.{SquareUpTo, Largest}
use Rattle.root.specs.Root.{whole_root, root_units, root_of}
use Rattle.root.proofs.PatternLaws.{units_of_lem}
use Rattle.root.proofs.RootLaws.{IsRoot, whole_root_lem, root_digits, root_large, four, four_pos}

-- ---- a double is a number of 53 digits at most times a power of two, in units of the least
record Units (m : ℕ) (e : ℤ) : Type 0 where
  pub power : ℕ
  pub is : m * up e * 2 ^ 1074 ≡ m * 2 ^ power * down e

power_of : (m : ℕ) (e : ℤ) → down e ≤ 2 ^ 1074 → Units m e
power_of m (pos k) h = record { power = k + 1074; is = mul_assoc m (2 ^ k) (2 ^ 1074) ∙ ap (λ (x : ℕ). m * x) (sym (pow-add 2 k 1074)) ∙ sym (mul-one (m * 2 ^ (k + 1074))) }
power_of m (negsuc k) h =
    let l : suc k ≤ 1074 = le_of_suc-le-suc (lt_of_not-le (λ (g : 1075 ≤ suc k). not-le_of_lt (pow-lt (zero_lt 1074)) (le_trans (pow_mono g) h))) in
    let e : 1074 ≡ 1074 - suc k + suc k = omega arith in
    record { power = 1074 - suc k; is = ap (λ (x : ℕ). x * 2 ^ 1074) (mul-one m) ∙ ap (λ (x : ℕ). m * x) (ap (λ (j : ℕ). 2 ^ j) e ∙ pow-add 2 (1074 - suc k) (suc k)) ∙ sym (mul_assoc m (2 ^ (1074 - suc k)) (2 ^ suc k)) }
  where
    zero_lt : (n : ℕ) → n < suc n
    zero_lt n = omega arith

fits_parts : (s : Bool) (m : ℕ) (e : ℤ) → T (fits binary64 (fin s m e)) → (m < 2 ^ 53) × (down e ≤ 2 ^ 1074) × (m * up e < 2 ^ 1024 * down e)
unfolding fits
fits_parts s zero e t =
    (lit< tt, le_trans (le-mul_of_pos_right (down e) (up_pos e)) (le_trans (le_of_eq (mul_comm (down e) (up e) ∙ eqb→eq (up e * down e) 1 t)) (pow_pos 1074)), subst (λ (n : ℕ). n < 2 ^ 1024 * down e) (sym (zero-mul (up e))) (mul-pos (pow_pos 1024) (down_pos e)))
fits_parts s (suc m) e t =
    let a = eqb (suc m % 2) 1 in
    let b = ltb (suc m) (2 ^ 53) in
    let c = leb (down e) (2 ^ 1074) in
    let d = ltb (suc m * up e) (2 ^ 1024 * down e) in
    (ltb→lt (suc m) (2 ^ 53) (and_r a b (and_l (a && b) c (and_l (a && b && c) d t))), leb→le (down e) (2 ^ 1074) (and_r (a && b) c (and_l (a && b && c) d t)), ltb→lt (suc m * up e) (2 ^ 1024 * down e) (and_r (a && b && c) d t))

square_power : (v b : ℕ) → v * v * 4 ^ b ≡ v * 2 ^ b * (v * 2 ^ b)
square_power v b =
    let e : b * 2 ≡ b + b = omega arith in
    ap (λ (x : ℕ). v * v * x) (four b ∙ ap (λ (k : ℕ). 2 ^ k) e ∙ pow-add 2 b b) ∙ mul-mul-mul_comm v v (2 ^ b) (2 ^ b)

-- ---- s is the whole root of n / 4 ^ b, and has 53 digits. Then (s * 2 ^ b) squared is at most n, and no q * 2 ^ j with a q of
-- 53 digits whose square is at most n lies above s * 2 ^ b
square_below : (n b s : ℕ) → IsRoot (n / 4 ^ b) s → s * 2 ^ b * (s * 2 ^ b) ≤ n
square_below n b s r = le_trans (le_of_eq (sym (square_power s b))) ((le-div_iff_mul-le (four_pos b)).0 r.0)

none_between : (n b s q j : ℕ) → IsRoot (n / 4 ^ b) s → 2 ^ 52 ≤ s → q < 2 ^ 53 → q * 2 ^ j * (q * 2 ^ j) ≤ n → q * 2 ^ j ≤ s * 2 ^ b
none_between n b s q j r l h k = le_of_suc-le-suc (lt_of_not-le clash)
  where
    clash : s * 2 ^ b < q * 2 ^ j → ⊥
    clash g =
        let few : b ≤ j = le_of_suc-le-suc (lt_of_not-le (λ (f : suc j ≤ b).
        let f' : 53 + j ≤ 52 + b = omega arith in
        lt_irrefl (q * 2 ^ j) (lt_of_lt_of_le (mul-lt-mul_of_pos_right h (pow_pos j)) (le_trans (le_of_eq (sym (pow-add 2 53 j))) (le_trans (pow_mono f') (le_trans (le_of_eq (pow-add 2 52 b)) (le_trans (mul-le-mul_right (2 ^ b) l) (le_of_lt g)))))))) in
        let v = q * 2 ^ (j - b) in
        let e : j ≡ j - b + b = omega arith in
        let v_is : q * 2 ^ j ≡ v * 2 ^ b = ap (λ (i : ℕ). q * 2 ^ i) e ∙ ap (λ (x : ℕ). q * x) (pow-add 2 (j - b) b) ∙ sym (mul_assoc q (2 ^ (j - b)) (2 ^ b)) in
        let more : s < v = lt_of_mul-lt-mul_right (2 ^ b) (subst (λ (x : ℕ). s * 2 ^ b < x) v_is g) in
        let more' : s + 1 ≤ v = omega arith in
        let low : v * v ≤ n / 4 ^ b = (le-div_iff_mul-le (four_pos b)).1 (le_trans (le_of_eq (square_power v b ∙ sym (λ i. v_is i * v_is i))) k) in
        not-le_of_lt r.1 (le_trans (mul-le-mul more' more') low)

-- ---- the digits of n / 4 ^ b
cut_range : (n : ℕ) → 2 ^ 1074 ≤ n → (2 ^ 104 ≤ n / 4 ^ ((size n - 105) / 2)) × (n / 4 ^ ((size n - 105) / 2) < 4 ^ 53)
cut_range n h =
    let z = size n in
    let b = (z - 105) / 2 in
    let large : 1074 < z = lt_of_not-le (λ (g : z ≤ 1074). not-le_of_lt (lt_of_lt_of_le (size-lt n) (pow_mono g)) h) in
    let below : 104 + b * 2 < z = omega arith in
    let above : z ≤ 106 + b * 2 = omega arith in (
      (le-div_iff_mul-le (four_pos b)).1 (le_trans (le_of_eq (ap (λ (x : ℕ). 2 ^ 104 * x) (four b) ∙ sym (pow-add 2 104 (b * 2)))) (size_reaches n (104 + b * 2) below)),
      (div-lt_iff_lt-mul (four_pos b)).1 (lt_of_lt_of_le (size-lt n) (le_trans (pow_mono above) (le_of_eq (pow-add 2 106 (b * 2) ∙ ap (λ (x : ℕ). 2 ^ 106 * x) (sym (four b)))))),
    )

-- ---- y * y ≤ x of fractions, and of the numbers of units
module _ (a l s d x u c : ℕ) (p : a * l ≡ s * d) (q : x * l ≡ u * c) where
  left_is : a * a * c * (l * l) ≡ s * s * (d * d * c)
  left_is =
      let e : a * a * c * (l * l) ≡ a * l * (a * l) * c = simp (mul_assoc, mul_comm, mul_left_comm) in
      let f : s * d * (s * d) * c ≡ s * s * (d * d * c) = simp (mul_assoc, mul_left_comm) in
      e ∙ (λ i. p i * p i * c) ∙ f

  right_is : x * (d * d) * (l * l) ≡ u * l * (d * d * c)
  right_is =
      let e : x * (d * d) * (l * l) ≡ x * l * l * (d * d) = simp (mul_assoc, mul_comm, mul_left_comm) in
      let f : u * c * l * (d * d) ≡ u * l * (d * d * c) = simp (mul_assoc, mul_comm, mul_left_comm) in
      e ∙ (λ i. q i * l * (d * d)) ∙ f

  to_fractions : 0 < l → s * s ≤ u * l → a * a * c ≤ x * (d * d)
  to_fractions L h = le_of_mul-le-mul_right (le_trans (le_of_eq left_is) (le_trans (mul-le-mul_right (d * d * c) h) (le_of_eq (sym right_is)))) (mul-pos L L)

  from_fractions : 0 < d → 0 < c → a * a * c ≤ x * (d * d) → s * s ≤ u * l
  from_fractions D C h = le_of_mul-le-mul_right (le_trans (le_of_eq (sym left_is)) (le_trans (mul-le-mul_right (l * l) h) (le_of_eq right_is))) (mul-pos (mul-pos D D) C)

-- ---- a value with the sign is no larger than one without
below_zero : (a b : ℕ) → T (ltb 0 (a + b) || (eqb a b && (false || eqb a 0)))
below_zero zero zero = tt
below_zero zero (suc b) = subst (λ (t : Bool). T (t || (eqb zero (suc b) && (false || eqb zero 0)))) (sym (lt-ltb 0 (zero + suc b) (omega arith))) tt
below_zero (suc a) b = subst (λ (t : Bool). T (t || (eqb (suc a) b && (false || eqb (suc a) 0)))) (sym (lt-ltb 0 (suc a + b) (omega arith))) tt

negative_le : (n : ℕ) (d : ℤ) (m : ℕ) (e : ℤ) → T (le (fin true n d) (fin false m e))
unfolding le
negative_le n d m e = below_zero (n * up d * down e) (m * up e * down d)

is_fin : (x : Float) (a c : ℕ) → HasValue x false a c → (m : ℕ) × (e : ℤ) × (x ≡ fin false m e)
is_fin nan a c h = elim h [ ]
is_fin (inf _) a c h = elim h [ ]
is_fin (fin true m e) a c h = absurd (true≢false h.0)
is_fin (fin false m e) a c h = (m, e, refl)

-- a root below p, of what is below p * p
root_below : (k n p q : ℕ) → k * k ≤ n → n < p * q → q ≤ p → k < p
root_below k n p q a b c = lt_of_not-le (λ (g : p ≤ k). not-le_of_lt b (le_trans (mul-le-mul (le_refl p) c) (le_trans (mul-le-mul g g) a)))

-- ---- the root of a value above zero
module _ (m : ℕ) (e : ℤ) (h : T (fits binary64 (fin false (suc m) e))) where
  abbrev u : Units (suc m) e
  u = power_of (suc m) e (fits_parts false (suc m) e h).1

  abbrev U : ℕ
  U = suc m * 2 ^ u.power

  abbrev b : ℕ
  b = (size (U * 2 ^ 1074) - 105) / 2

  abbrev s : ℕ
  s = whole_root 53 (U * 2 ^ 1074 / 4 ^ b)

  range : (2 ^ 104 ≤ U * 2 ^ 1074 / 4 ^ b) × (U * 2 ^ 1074 / 4 ^ b < 4 ^ 53)
  range = cut_range (U * 2 ^ 1074) (le_trans (le_of_eq (sym (one-mul (2 ^ 1074)))) (mul-le-mul_right (2 ^ 1074) (mul-pos (zero-lt-suc m) (pow_pos u.power))))

  r : IsRoot (U * 2 ^ 1074 / 4 ^ b) s
  r = whole_root_lem 53 (U * 2 ^ 1074 / 4 ^ b) range.1

  abbrev R : Float
  R = odd 53 false s b 1074

  root_is : root_of (fin false (suc m) e) ≡ R
  unfolding root_of root_units
  root_is = ap (λ (n : ℕ). root_units (n * 2 ^ 1074)) (units_of_lem (fin false (suc m) e) U u.is)

  value : HasValue R false (s * 2 ^ b) (2 ^ 1074)
  value = odd_sign 53 false s b 1074

  square_ok : SquareUpTo R (fin false (suc m) e)
  square_ok = go R value
    where
      go : (x : Float) → HasValue x false (s * 2 ^ b) (2 ^ 1074) → SquareUpTo x (fin false (suc m) e)
      go nan v = elim v [ ]
      go (inf _) v = elim v [ ]
      go (fin t n d) v = record { is_finite = tt; square = to_fractions (n * up d) (2 ^ 1074) (s * 2 ^ b) (down d) (suc m * up e) U (down e) v.1 u.is (pow_pos 1074) (square_below (U * 2 ^ 1074) b s r) }

  double_ok : T (fits binary64 R)
  double_ok =
      let x_small : U * down e < 2 ^ 2098 * down e =
      subst (λ (n : ℕ). n < 2 ^ 2098 * down e) u.is (lt_of_lt_of_le (mul-lt-mul_of_pos_right (fits_parts false (suc m) e h).2 (pow_pos 1074)) (le_of_eq (mul_right_comm (2 ^ 1024) (down e) (2 ^ 1074)))) in
      let n_small : U * 2 ^ 1074 < 2 ^ 2098 * 2 ^ 1074 = mul-lt-mul_of_pos_right (lt_of_mul-lt-mul_right (down e) x_small) (pow_pos 1074) in
      let s_small = root_digits 53 (U * 2 ^ 1074 / 4 ^ b) in
      odd-fits binary64 53 false s b s_small (le_of_lt s_small) (root_below (s * 2 ^ b) (U * 2 ^ 1074) (2 ^ 2098) (2 ^ 1074) (square_below (U * 2 ^ 1074) b s r) n_small (pow_mono {i = 1074} {j = 2098} (lit≤ tt)))

  largest_ok : (y : Float) → T (fits binary64 y) → SquareUpTo y (fin false (suc m) e) → T (le y R)
  largest_ok nan f w = absurd w.is_finite
  largest_ok (inf t) f w = absurd w.is_finite
  largest_ok (fin true n d) f w = let i = is_fin R _ _ value in subst (λ (x : Float). T (le (fin true n d) x)) (sym i.2) (negative_le n d i.0 i.1)
  largest_ok (fin false n d) f w =
      let g = fits_parts false n d f in
      let v = power_of n d g.1 in
      let small : n * 2 ^ v.power * (n * 2 ^ v.power) ≤ U * 2 ^ 1074 = from_fractions (n * up d) (2 ^ 1074) (n * 2 ^ v.power) (down d) (suc m * up e) U (down e) v.is u.is (down_pos d) (down_pos e) w.square in
      le_of_values (fin false n d) R (n * 2 ^ v.power) (2 ^ 1074) (s * 2 ^ b) (2 ^ 1074) (pow_pos 1074) (pow_pos 1074) (refl, v.is) value
      (mul-le-mul_right (2 ^ 1074) (none_between (U * 2 ^ 1074) b s n v.power r (root_large (U * 2 ^ 1074 / 4 ^ b) s range.0 r) g.0 small))

largest_above : (m : ℕ) (e : ℤ) → T (fits binary64 (fin false (suc m) e)) → Largest (fin false (suc m) e) (root_of (fin false (suc m) e))
largest_above m e h = subst (Largest (fin false (suc m) e)) (sym (root_is m e h)) record { double = double_ok m e h; square = square_ok m e h; largest = largest_ok m e h }

-- ---- the root of either zero
no_size : (a c k : ℕ) → 0 < c → a * a * c ≤ 0 * k → a ≡ 0
no_size zero c k C h = refl
no_size (suc a) c k C h = absurd (lt_irrefl 0 (lt_of_lt_of_le (mul-pos (mul-pos (zero-lt-suc a) (zero-lt-suc a)) C) (le_trans h (le_of_eq (zero-mul k)))))

least_value : (n : ℕ) (d : ℤ) → n * up d ≡ 0 → T (le (fin false n d) +0)
least_value n d z = le_of_values (fin false n d) +0 (n * up d) (down d) 0 1 (down_pos d) (zero-lt-suc 0) (refl, refl) (refl, refl) (le_of_eq (mul-one (n * up d) ∙ z ∙ sym (zero-mul (down d))))

largest_zero : (s : Bool) (e : ℤ) → Largest (fin s zero e) (root_of (fin s zero e))
unfolding root_of
largest_zero s e = record { double = unfold fits in tt; square = record { is_finite = tt; square = le_trans (le_of_eq (zero-mul (down e))) zero-le }; largest = below }
  where
    below : (y : Float) → T (fits binary64 y) → SquareUpTo y (fin s zero e) → T (le y +0)
    below nan f w = absurd w.is_finite
    below (inf t) f w = absurd w.is_finite
    below (fin true n d) f w = negative_le n d 0 (pos 0)
    below (fin false n d) f w = least_value n d (no_size (n * up d) (down e) (down d * down d) (down_pos e) (le_trans w.square (le_of_eq (ap (λ (k : ℕ). k * (down d * down d)) (zero-mul (up e))))))

-- ---- the root of every finite double that is 0 or above
pub root_largest : (x : Float) → T (fits binary64 x) → T (finite x) → T (le +0 x) → Largest x (root_of x)
unfolding le
root_largest nan f g h = absurd g
root_largest (inf s) f g h = absurd g
root_largest (fin s zero e) f g h = largest_zero s e
root_largest (fin true (suc m) e) f g h =
    let a = 0 * 1 * down e in
    let b = suc m * up e * 1 in
    let z : a ≡ b = eqb→eq a b (and_l (eqb a b) (false || eqb a 0) h) in
    absurd (omega (arith, mul-pos (zero-lt-suc m) (up_pos e)))
root_largest (fin false (suc m) e) f g h = largest_above m e f

-- what is below 0 has none
pub root_none : (x : Float) → T (lt x +0) → root_of x ≡ nan
unfolding lt root_of
root_none nan h = refl
root_none (inf s) h = refl
root_none (fin true zero e) h =
    let z = ltb→lt 0 (zero * up e * 1 + 0 * 1 * down e) h in
    absurd (omega arith)
root_none (fin true (suc m) e) h = refl
root_none (fin false m e) h =
    let z = ltb→lt (m * up e * 1) (0 * 1 * down e) h in
    absurd (omega arith)
