-- Rows of digits: their bounds, and reading them with numbers past the limit kept at it.
use mathlib.Core.Bool.{Bool, true, false, cond, ◌&&◌, and-false}
use mathlib.Core.List.{[], ◌∷◌, ◌++◌}
use mathlib.Core.Path.{◌≡◌, refl, sym, ap, ◌∙◌}
use Prim.Native.Nat.{ℕ, suc, ◌+◌, ◌*◌, ◌-◌, ◌^◌, ◌≤◌, ◌<◌, min}
use native.Mathlib.Nat.{pow-suc, mul-le-mul_right, pow-le-pow_right, min-eq_right}
use native.Mathlib.Numerals.{add-one}
use native.Mathlib.Omega.{arith}
use borrow.Author.Tests.{leb-true, le-leb, lt-leb}
use lib.Dec.{leb}
use lib.ListN.{length, drop, get_or, drop_of_length-le}
use lib.Seq.{drop-cons}
use Rattle.std.specs.Prelude.{Some, None}
use Rattle.laws.proofs.BoolLaws.{and_left, and_right}
use Rattle.laws.proofs.NatLaws.{cut}
use Rattle.laws.specs.Bytes.{Bytes}
use Rattle.laws.specs.Runs.{all}
use Rattle.numeral_parts.specs.Digits.{digits, is_digit, value_from, value_of}
use Rattle.numeral_parts.specs.Saturated.{limit, saturated}

pub digit_low : (b : ℕ) → is_digit b ≡ true → 48 ≤ b
unfolding is_digit
digit_low b e = leb-true 48 b (and_left (leb 48 b) (leb b 57) e)

pub digit_high : (b : ℕ) → is_digit b ≡ true → b ≤ 57
unfolding is_digit
digit_high b e = leb-true b 57 (and_right (leb 48 b) (leb b 57) e)

-- ---- the value of a row

-- a row behind another
pub value_append : (v : ℕ) (w u : Bytes) → value_from v (w ++ u) ≡ value_from (value_from v w) u
unfolding value_from
value_append v [] u = refl
value_append v (b ∷ w) u = value_append (v * 10 + (b - 48)) w u

-- a row of n digits is below 10 ^ n, and behind v below v + 1 times that
pub value_below : (v : ℕ) (w : Bytes) → all is_digit w ≡ true → value_from v w < (v + 1) * 10 ^ length w
unfolding value_from all
value_below v [] e = omega arith
value_below v (b ∷ w) e =
    let d = digit_high b (and_left (is_digit b) (all is_digit w) e) in
    let ih = value_below (v * 10 + (b - 48)) w (and_right (is_digit b) (all is_digit w) e) in
    let h : v * 10 + (b - 48) + 1 ≤ (v + 1) * 10 = omega arith in
    rw pow-suc (omega (arith, mul-le-mul_right (10 ^ length w) h))

-- no digit makes a number less
value_grows : (v : ℕ) (w : Bytes) → v ≤ value_from v w
unfolding value_from
value_grows v [] = omega arith
value_grows v (b ∷ w) = let h = value_grows (v * 10 + (b - 48)) w in omega arith

-- ---- saturation

-- a number at the limit or past it stays there
pub value_capped : (v : ℕ) (w : Bytes) → min limit (value_from (min limit v) w) ≡ min limit (value_from v w)
value_capped v w =
    let e : min limit v ≡ min v limit = omega arith in
    ap (λ (n : ℕ). min limit (value_from n w)) e ∙ cut (λ (n : ℕ). min limit (value_from n w)) v limit (λ h. omega (arith, value_grows v w, value_grows limit w))

module _ (n : ℕ) (w : Bytes) (i : ℕ) where
  pub read_end : n ≤ limit → length w ≤ i → Some n ≡ saturated n (drop i w)
  unfolding saturated all value_from
  read_end h l = rw (drop_of_length-le w l) (ap Some (sym (min-eq_right h)))

  module _ (l : i < length w) where
    pub read_stop : is_digit (get_or w i 0) ≡ false → None ≡ saturated n (drop i w)
    unfolding saturated all
    read_stop e = rw (drop-cons w i 0 l, e)

    pub read_step : (m : ℕ) → m ≡ min limit (n * 10 + (get_or w i 0 - 48)) → is_digit (get_or w i 0) ≡ true → saturated m (drop (i + 1) w) ≡ saturated n (drop i w)
    unfolding saturated all value_from
    read_step m h e =
        rw (add-one, drop-cons w i 0 l, e, h)
        (ap (λ (x : ℕ). cond (all is_digit (drop (suc i) w)) (Some x) None) (value_capped (n * 10 + (get_or w i 0 - 48)) (drop (suc i) w)))

-- what an answer says of the row
pub row_bad : (n : ℕ) (w : Bytes) → None ≡ saturated n w → all is_digit w ≡ false
unfolding saturated
row_bad n w = go (all is_digit w)
  where
    go : (b : Bool) → None ≡ cond b (Some (min limit (value_from n w))) None → b ≡ false
    go true e = cc
    go false e = refl

pub row_good : (n m : ℕ) (w : Bytes) → Some m ≡ saturated n w → all is_digit w ≡ true
unfolding saturated
row_good n m w = go (all is_digit w)
  where
    go : (b : Bool) → Some m ≡ cond b (Some (min limit (value_from n w))) None → b ≡ true
    go true e = refl
    go false e = cc

pub row_value : (n m : ℕ) (w : Bytes) → Some m ≡ saturated n w → m ≡ min limit (value_from n w)
unfolding saturated
row_value n m w = go (all is_digit w)
  where
    go : (b : Bool) → Some m ≡ cond b (Some (min limit (value_from n w))) None → m ≡ min limit (value_from n w)
    go true e = cc
    go false e = cc

-- ---- from `least` to `most` digits

module _ (least most : ℕ) (w : Bytes) where
  pub digits_few : length w < least → digits least most w ≡ false
  unfolding digits
  digits_few h = rw (lt-leb least (length w) h)

  pub digits_many : most < length w → digits least most w ≡ false
  unfolding digits
  digits_many h = rw (lt-leb (length w) most h, and-false)

  pub digits_bad : None ≡ saturated 0 w → digits least most w ≡ false
  unfolding digits
  digits_bad e = rw (row_bad 0 w e, and-false)

  pub digits_good : least ≤ length w → length w ≤ most → (n : ℕ) → Some n ≡ saturated 0 w → digits least most w ≡ true
  unfolding digits
  digits_good h l n e = rw (le-leb least (length w) h, le-leb (length w) most l, row_good 0 n w e)

  pub digits_all : digits least most w ≡ true → all is_digit w ≡ true
  unfolding digits
  digits_all e = and_right (leb least (length w) && leb (length w) most) (all is_digit w) e

  pub digits_most : digits least most w ≡ true → length w ≤ most
  unfolding digits
  digits_most e = leb-true (length w) most (and_right (leb least (length w)) (leb (length w) most) (and_left (leb least (length w) && leb (length w) most) (all is_digit w) e))

-- a row of at most 15 digits is below the limit, and below 10 to the power of its most
pub short_value : (n most : ℕ) (w : Bytes) → length w ≤ most → most ≤ 15 → Some n ≡ saturated 0 w → (n ≡ value_of w) × (n < 10 ^ most)
short_value n most w h l e =
    let b = value_below 0 w (row_good 0 n w e) in
    let p : 10 ^ length w ≤ 10 ^ most = pow-le-pow_right {n = 10} (omega arith) h in
    let q : 10 ^ most ≤ 10 ^ 15 = pow-le-pow_right {n = 10} (omega arith) l in
    let v = row_value 0 n w e in
    (omega arith, omega arith)
