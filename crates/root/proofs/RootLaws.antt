-- The whole root: `whole_root` finds the one s with s * s ≤ n < (s + 1) * (s + 1), and `root_units` is a whole root of 53 digits.
use mathlib.Core.Bool.{Bool, true, false, not, cond}
use mathlib.Core.Path.{◌≡◌, refl, sym, ap, ◌∙◌, subst}
use Prim.Native.Nat.{ℕ, zero, suc, ◌+◌, ◌-◌, ◌*◌, ◌/◌, ◌^◌, ◌≤◌, ◌<◌}
use native.Mathlib.Nat.{add-mul, mul-add, mul-one, one-mul, mul_assoc, mul_comm, mul_left_comm, mul-le-mul, le_antisymm, lt_of_not-le, le_of_suc-le-suc, pow-suc, div-lt_iff_lt-mul, zero-lt-suc, le_trans, le_of_eq, not-le_of_lt, lt_of_lt_of_le, mul-le-mul_right, mul-lt-mul_of_pos_right, mul-div_cancel}
use native.Mathlib.Numerals.{add-one}
use native.Mathlib.Omega.{arith}
use lib.Dec.{T, leb, leb→le, nleb→lt}
use lib.Ieee.{odd, size}
use lib.Ieee.Digits.{size-lt, size-le}
use lib.Pow.{pow-add, pow_pos, pow_mono, shl_lt}
use Rattle.root.specs.Root.{whole_root, root_units}

abbrev pub IsRoot : ℕ → ℕ → Type 0
IsRoot n s = (s * s ≤ n) × (n < (s + 1) * (s + 1))

pub square_next : (t : ℕ) → (t + 1) * (t + 1) ≡ t * t + (2 * t + 1)
square_next t = simp (add-mul, mul-add, mul-one, one-mul) (omega arith)

pub square_twice : (t : ℕ) → t * 2 * (t * 2) ≡ 4 * (t * t)
square_twice t = simp (mul_assoc, mul_comm, mul_left_comm) (omega arith)

-- ---- there is one
not_above : (n s t : ℕ) → IsRoot n s → IsRoot n t → s < t → ⊥
not_above n s t a b h =
    let k : (s + 1) * (s + 1) ≤ t * t = mul-le-mul (omega arith) (omega arith) in
    omega arith

pub one_root : (n s t : ℕ) → IsRoot n s → IsRoot n t → s ≡ t
one_root n s t a b = le_antisymm (le_of_suc-le-suc (lt_of_not-le (not_above n t s b a))) (le_of_suc-le-suc (lt_of_not-le (not_above n s t a b)))

-- ---- `whole_root` finds it
next : (n t : ℕ) (b : Bool) → (T b → (t * 2 + 1) * (t * 2 + 1) ≤ n) → (T (not b) → n < (t * 2 + 1) * (t * 2 + 1)) → IsRoot (n / 4) t → IsRoot n (cond b (t * 2 + 1) (t * 2))
next n t true h k r = omega (arith, h tt, square_next (t * 2 + 1), square_next (t * 2), square_twice t, square_next t)
next n t false h k r = omega (arith, k tt, square_next (t * 2), square_twice t)

pub whole_root_lem : (k n : ℕ) → n < 4 ^ k → IsRoot n (whole_root k n)
unfolding whole_root
whole_root_lem zero n h = omega arith
whole_root_lem (suc k) n h =
    let t = whole_root k (n / 4) in
    next n t (leb ((t * 2 + 1) * (t * 2 + 1)) n) (leb→le ((t * 2 + 1) * (t * 2 + 1)) n) (nleb→lt ((t * 2 + 1) * (t * 2 + 1)) n)
    (whole_root_lem k (n / 4) ((div-lt_iff_lt-mul (zero-lt-suc 3)).1 (subst (λ (x : ℕ). n < x) (pow-suc 4 k) h)))

-- ---- how many digits it has
digit_more : (b : Bool) (t p : ℕ) → t < p → cond b (t * 2 + 1) (t * 2) < p * 2
digit_more true t p h = omega arith
digit_more false t p h = omega arith

-- k digits at most
pub root_digits : (k n : ℕ) → whole_root k n < 2 ^ k
unfolding whole_root
root_digits zero n = zero-lt-suc 0
root_digits (suc k) n =
    let t = whole_root k (n / 4) in
    subst (λ (p : ℕ). cond (leb ((t * 2 + 1) * (t * 2 + 1)) n) (t * 2 + 1) (t * 2) < p) (sym (pow-suc 2 k)) (digit_more (leb ((t * 2 + 1) * (t * 2 + 1)) n) t (2 ^ k) (root_digits k (n / 4)))

-- 53 at least, where n has 105
pub root_large : (n s : ℕ) → 2 ^ 104 ≤ n → IsRoot n s → 2 ^ 52 ≤ s
root_large n s h r = le_of_suc-le-suc (lt_of_not-le (λ (g : suc s ≤ 2 ^ 52). not-le_of_lt r.1 (le_trans (mul-le-mul (le_of_eq (add-one s)) (le_of_eq (add-one s))) (le_trans (mul-le-mul g g) h))))

-- a w of 54 digits at most, and 52 places
pub places_52 : (w : ℕ) → w < 2 ^ 54 → w * 2 ^ 52 < 4 ^ 53
places_52 w h = mul-lt-mul_of_pos_right h (pow_pos 52)

pub root_range : (w : ℕ) → 2 ^ 52 ≤ w → w < 2 ^ 54 → (2 ^ 52 ≤ whole_root 53 (w * 2 ^ 52)) × (whole_root 53 (w * 2 ^ 52) < 2 ^ 53)
root_range w a b = (root_large (w * 2 ^ 52) (whole_root 53 (w * 2 ^ 52)) (mul-le-mul_right (2 ^ 52) a) (whole_root_lem 53 (w * 2 ^ 52) (places_52 w b)), root_digits 53 (w * 2 ^ 52))

-- ---- the definition at a number of 53 digits and its power
size_of : (q j : ℕ) → 2 ^ 52 ≤ q → q < 2 ^ 53 → size (q * 2 ^ j) ≡ 53 + j
size_of q j a b =
    let n = q * 2 ^ j in
    let l : 52 + j < size n = (lt_of_not-le (λ (g : size n ≤ 52 + j). not-le_of_lt (lt_of_lt_of_le (size-lt n) (pow_mono g)) (le_trans (le_of_eq (pow-add 2 52 j)) (mul-le-mul_right (2 ^ j) a)))) in
    le_antisymm (size-le n (53 + j) (shl_lt 53 j b)) (omega arith)

pub four : (n : ℕ) → 4 ^ n ≡ 2 ^ (n * 2)
four zero = refl
four (suc n) = pow-suc 4 n ∙ ap (λ (x : ℕ). x * 4) (four n) ∙ sym (pow-add 2 (n * 2) 2) ∙ ap (λ (k : ℕ). 2 ^ k) (sym (suc_mul' n))
  where
    suc_mul' : (n : ℕ) → suc n * 2 ≡ n * 2 + 2
    suc_mul' n = omega arith

pub four_pos : (n : ℕ) → 0 < 4 ^ n
four_pos n = subst (λ (x : ℕ). 0 < x) (sym (four n)) (pow_pos (n * 2))

half_of : (k half p : ℕ) → k ≡ half * 2 + p → p ≤ 1 → (53 + (k + 1022) - 105) / 2 ≡ half + 485
half_of k half p e h = omega arith

pub root_units_lem : (q k half p : ℕ) → 2 ^ 52 ≤ q → q < 2 ^ 53 → k ≡ half * 2 + p → p ≤ 1 → root_units (q * 2 ^ k * 2 ^ 1022) ≡ odd 53 false (whole_root 53 (q * 2 ^ p * 2 ^ 52)) (half + 485) 1074
unfolding root_units
root_units_lem q k half p a b e h =
    let n = q * 2 ^ k * 2 ^ 1022 in
    let n_is : n ≡ q * 2 ^ (k + 1022) = mul_assoc q (2 ^ k) (2 ^ 1022) ∙ ap (λ (x : ℕ). q * x) (sym (pow-add 2 k 1022)) in
    let size_is : (size n - 105) / 2 ≡ half + 485 = ap (λ (x : ℕ). (x - 105) / 2) (ap size n_is ∙ size_of q (k + 1022) a b) ∙ half_of k half p e h in
    let power : k + 1022 ≡ p + (52 + (half + 485) * 2) = omega arith in
    let cut : n ≡ q * 2 ^ p * 2 ^ 52 * 4 ^ (half + 485) =
    n_is
    ∙ ap (λ (x : ℕ). q * x) (ap (λ (x : ℕ). 2 ^ x) power ∙ pow-add 2 p (52 + (half + 485) * 2) ∙ ap (λ (x : ℕ). 2 ^ p * x) (pow-add 2 52 ((half + 485) * 2) ∙ ap (λ (x : ℕ). 2 ^ 52 * x) (sym (four (half + 485)))))
    ∙ sym (mul_assoc q (2 ^ p) (2 ^ 52 * 4 ^ (half + 485)))
    ∙ sym (mul_assoc (q * 2 ^ p) (2 ^ 52) (4 ^ (half + 485))) in
    ap (λ (b : ℕ). odd 53 false (whole_root 53 (n / 4 ^ b)) b 1074) size_is
    ∙ ap (λ (m : ℕ). odd 53 false (whole_root 53 m) (half + 485) 1074) (ap (λ (x : ℕ). x / 4 ^ (half + 485)) cut ∙ mul-div_cancel (q * 2 ^ p * 2 ^ 52) (four_pos (half + 485)))
