-- A word of digits with a fraction and a power: its bytes are good, and what numeral it is.
use mathlib.Core.Bool.{Bool, true, false, not, ◌&&◌, ◌||◌, cond, or-true}
use mathlib.Core.List.{[], ◌∷◌, ◌++◌}
use mathlib.Core.Path.{◌≡◌, refl, sym, ap, ◌∙◌}
use Prim.Native.Nat.{ℕ, suc, ◌+◌, ◌<◌}
use native.Mathlib.Nat.{zero-add, suc-add}
use native.Mathlib.Omega.{arith}
use borrow.Author.Tests.{eqb-true, le-leb, le-ltb}
use lib.Dec.{leb, ltb, eqb}
use lib.ListN.{length, take, drop, get_or, length-append}
use lib.Seq.{take-append_seam, drop-append-add}
use Rattle.laws.proofs.BoolLaws.{and_left, and_right}
use Rattle.laws.proofs.RunLaws.{run_more}
use Rattle.laws.specs.Bytes.{Bytes, byte}
use Rattle.laws.specs.Runs.{all, run}
use Rattle.lexer.specs.Class.{is_good}
use Rattle.numeral.specs.Numeral as n
use Rattle.numeral.specs.Numeral.{coefficient, exponent, mantissa, number_of, numeral_of, well_formed}
use Rattle.numeral_parts.proofs.DigitLaws.{digit_low, digit_high, digits_all, value_append}
use Rattle.numeral_parts.specs.Digits.{is_digit, value_from, value_of}
use Rattle.numeral_parts.specs.Parts.{before, behind, has, index_of, is_exponent, is_mantissa, is_mark, is_point, is_sign, negative, unsigned}
use Rattle.numeral_scan.specs.Pieces.{down_by, is_fraction, is_power, up_by}

-- ---- lists whose every byte passes a test

pub both : {a b : Bool} → a ≡ true → b ≡ true → (a && b) ≡ true
both p q = rw (p, q)

pub all_both : (test : ℕ → Bool) (xs ys : Bytes) → all test xs ≡ true → all test ys ≡ true → all test (xs ++ ys) ≡ true
unfolding all
all_both test [] ys p q = q
all_both test (x ∷ xs) ys p q = both (and_left (test x) (all test xs) p) (all_both test xs ys (and_right (test x) (all test xs) p) q)

all_weaker : (p q : ℕ → Bool) → ((b : ℕ) → p b ≡ true → q b ≡ true) → (w : Bytes) → all p w ≡ true → all q w ≡ true
unfolding all
all_weaker p q h [] e = refl
all_weaker p q h (b ∷ w) e = both (h b (and_left (p b) (all p w) e)) (all_weaker p q h w (and_right (p b) (all p w) e))

-- ---- bytes

-- a digit is none of the other bytes
digit_not : (b k : ℕ) → is_digit b ≡ true → is_digit k ≡ false → eqb b k ≡ false
digit_not b k d h = go (eqb b k) refl
  where
    go : (t : Bool) → eqb b k ≡ t → t ≡ false
    go true e = sym d ∙ ap is_digit (eqb-true b k e) ∙ h
    go false e = refl

digit_no_mark : (b : ℕ) → is_digit b ≡ true → not (is_mark b) ≡ true
unfolding is_mark is_digit
digit_no_mark b d = rw (digit_not b 101 d refl, digit_not b 69 d refl)

digit_no_point : (b : ℕ) → is_digit b ≡ true → not (is_point b) ≡ true
unfolding is_point is_digit
digit_no_point b d = rw (digit_not b 46 d refl)

digit_no_sign : (b : ℕ) → is_digit b ≡ true → is_sign b ≡ false
unfolding is_sign is_digit
digit_no_sign b d = rw (digit_not b 43 d refl, digit_not b 45 d refl)

digit_good : (b : ℕ) → is_digit b ≡ true → is_good b ≡ true
unfolding is_good
digit_good b d = let l = digit_low b d in let h = digit_high b d in both (le-leb 33 b (omega arith)) (le-leb b 126 (omega arith))

-- a byte that is known by a test of its value
known : (test : ℕ → Bool) (b k : ℕ) → eqb b k ≡ true → (v : Bool) → test k ≡ v → test b ≡ v
known test b k e v t = ap test (eqb-true b k e) ∙ t

sign_good : (b : ℕ) → is_sign b ≡ true → is_good b ≡ true
unfolding is_sign is_good
sign_good b s = go (eqb b 43) refl (eqb b 45) refl s
  where
    go : (p : Bool) → eqb b 43 ≡ p → (q : Bool) → eqb b 45 ≡ q → (p || q) ≡ true → (leb 33 b && leb b 126) ≡ true
    go true e q f t = known (λ x. leb 33 x && leb x 126) b 43 e true refl
    go false e true f t = known (λ x. leb 33 x && leb x 126) b 45 f true refl
    go false e false f t = absurd (mathlib.Core.Bool.false≢true t)

-- ---- where a byte stands first

module _ (test : ℕ → Bool) where
  index_front : (m e : Bytes) → all (λ b. not (test b)) m ≡ true → index_of test (m ++ e) ≡ length m + index_of test e
  unfolding index_of all
  index_front [] e h = sym (zero-add (index_of test e))
  index_front (b ∷ m) e h =
      run_more (λ b. not (test b)) b (m ++ e) (and_left (not (test b)) (all (λ b. not (test b)) m) h)
      ∙ ap suc (index_front m e (and_right (not (test b)) (all (λ b. not (test b)) m) h))
      ∙ sym (suc-add (length m) (index_of test e))

  -- a list that it divides
  module _ (m e : Bytes) (h : all (λ b. not (test b)) m ≡ true) (z : index_of test e ≡ 0) where
    index_there : index_of test (m ++ e) ≡ length m
    index_there = omega (arith, index_front m e h, z)

    before_there : before test (m ++ e) ≡ m
    unfolding before
    before_there = ap (λ (k : ℕ). take k (m ++ e)) index_there ∙ take-append_seam m e

    behind_there : behind test (m ++ e) ≡ drop 1 e
    unfolding behind
    behind_there = ap (λ (k : ℕ). drop (k + 1) (m ++ e)) index_there ∙ drop-append-add m e 1

-- ---- the fraction and the power

fraction_digits : (f : Bytes) → is_fraction f ≡ true → all is_digit (drop 1 f) ≡ true
unfolding is_fraction all
fraction_digits [] h = refl
fraction_digits (b ∷ w) h = and_right (is_point b) (all is_digit w) h

fraction_point : (f : Bytes) → is_fraction f ≡ true → index_of is_point f ≡ 0
unfolding is_fraction index_of run
fraction_point [] h = refl
fraction_point (b ∷ w) h = rw (and_left (is_point b) (all is_digit w) h)

-- every byte of a fraction passes a test that the point and the digits pass
fraction_all : (test : ℕ → Bool) → test (byte ".") ≡ true → ((b : ℕ) → is_digit b ≡ true → test b ≡ true) → (f : Bytes) → is_fraction f ≡ true → all test f ≡ true
unfolding is_fraction all is_point
fraction_all test p d [] h = refl
fraction_all test p d (b ∷ w) h = both (known test b 46 (and_left (is_point b) (all is_digit w) h) true p) (all_weaker is_digit test d w (and_right (is_point b) (all is_digit w) h))

power_mark : (e : Bytes) → is_power e ≡ true → index_of is_mark e ≡ 0
unfolding is_power index_of run is_mark
power_mark [] h = refl
power_mark (b ∷ e) h = rw (and_left (eqb b 101) (is_exponent e) h)

-- a word is good where its bytes behind the sign are
pub signed_good : (w : Bytes) → all is_good (unsigned w) ≡ true → all is_good w ≡ true
unfolding unsigned all
signed_good [] h = refl
signed_good (b ∷ w) h = go (is_sign b) refl h
  where
    go : (s : Bool) → is_sign b ≡ s → all is_good (cond s w (b ∷ w)) ≡ true → (is_good b && all is_good w) ≡ true
    go true e h = both (sign_good b e) h
    go false e h = h

power_good : (e : Bytes) → is_power e ≡ true → all is_good e ≡ true
unfolding is_power all is_exponent is_good
power_good [] h = refl
power_good (b ∷ e) h =
    both (known is_good b 101 (and_left (eqb b 101) (is_exponent e) h) true refl)
    (signed_good e (all_weaker is_digit is_good digit_good (unsigned e) (digits_all 1 3 (unsigned e) (and_right (eqb b 101) (is_exponent e) h))))

-- ---- the word

-- digits do not begin with a sign
pub digits_unsigned : (w : Bytes) → all is_digit w ≡ true → is_sign (get_or w 0 0) ≡ false
unfolding all is_sign
digits_unsigned [] h = refl
digits_unsigned (b ∷ w) h = digit_no_sign b (and_left (is_digit b) (all is_digit w) h)

-- the pieces behind the sign, of which the first two have a digit
pub record Shape (a f e : Bytes) : Type 0 where
  pub whole : all is_digit a ≡ true
  pub fraction : is_fraction f ≡ true
  pub power : is_power e ≡ true
  pub some : 0 < length a + length (drop 1 f)

module _ (a f e : Bytes) (s : Shape a f e) where
  pub shape_unsigned : is_sign (get_or ((a ++ f) ++ e) 0 0) ≡ false
  unfolding all is_fraction is_sign is_point
  shape_unsigned = go a f s.whole s.fraction s.some
    where
      go : (a f : Bytes) → all is_digit a ≡ true → is_fraction f ≡ true → 0 < length a + length (drop 1 f) → is_sign (get_or ((a ++ f) ++ e) 0 0) ≡ false
      go [] [] h k l = absurd (omega arith)
      go [] (b ∷ f) h k l = known is_sign b 46 (and_left (is_point b) (all is_digit f) k) false refl
      go (b ∷ a) f h k l = digit_no_sign b (and_left (is_digit b) (all is_digit a) h)

  pub shape_good : all is_good ((a ++ f) ++ e) ≡ true
  unfolding is_good
  shape_good = all_both is_good (a ++ f) e (all_both is_good a f (all_weaker is_digit is_good digit_good a s.whole) (fraction_all is_good refl digit_good f s.fraction)) (power_good e s.power)

  unmarked : all (λ b. not (is_mark b)) (a ++ f) ≡ true
  unfolding is_mark
  unmarked = all_both (λ b. not (is_mark b)) a f (all_weaker is_digit (λ b. not (is_mark b)) digit_no_mark a s.whole) (fraction_all (λ b. not (is_mark b)) refl digit_no_mark f s.fraction)

  unpointed : all (λ b. not (is_point b)) a ≡ true
  unpointed = all_weaker is_digit (λ b. not (is_point b)) digit_no_point a s.whole

  whole_is : before is_point (a ++ f) ≡ a
  whole_is = before_there is_point a f unpointed (fraction_point f s.fraction)

  after_is : behind is_point (a ++ f) ≡ drop 1 f
  after_is = behind_there is_point a f unpointed (fraction_point f s.fraction)

  module _ (w : Bytes) (u : unsigned w ≡ (a ++ f) ++ e) where
    mantissa_is : mantissa w ≡ a ++ f
    unfolding mantissa
    mantissa_is = ap (before is_mark) u ∙ before_there is_mark (a ++ f) e unmarked (power_mark e s.power)

    exponent_is : exponent w ≡ drop 1 e
    unfolding exponent
    exponent_is = ap (behind is_mark) u ∙ behind_there is_mark (a ++ f) e unmarked (power_mark e s.power)

    mantissa_good : is_mantissa (mantissa w) ≡ true
    unfolding is_mantissa
    mantissa_good = rw (mantissa_is, whole_is, after_is) (both (both s.whole (fraction_digits f s.fraction)) (le-leb 1 (length a + length (drop 1 f)) s.some))

    -- with no mark behind it there is no exponent, and behind the mark it is good
    exponent_good : (not (has is_mark (unsigned w)) || is_exponent (exponent w)) ≡ true
    unfolding has is_power
    exponent_good = rw (u, exponent_is) (go e s.power (index_there is_mark (a ++ f) e unmarked (power_mark e s.power)))
      where
        go : (e : Bytes) → is_power e ≡ true → index_of is_mark ((a ++ f) ++ e) ≡ length (a ++ f) → (not (ltb (index_of is_mark ((a ++ f) ++ e)) (length ((a ++ f) ++ e))) || is_exponent (drop 1 e)) ≡ true
        go [] h i = rw (le-ltb (index_of is_mark ((a ++ f) ++ [])) (length ((a ++ f) ++ [])) (omega (arith, i, length-append (a ++ f) [])))
        go (b ∷ e) h i = rw (and_right (eqb b 101) (is_exponent e) h, or-true)

    pub shape_numeral : numeral_of w ≡ number_of (negative w) (value_from (value_of a) (drop 1 f)) (up_by (drop 1 e)) (length (drop 1 f) + down_by (drop 1 e))
    unfolding numeral_of well_formed coefficient n.up n.down
    shape_numeral = rw (mantissa_good, exponent_good, mantissa_is, exponent_is, whole_is, after_is, value_append)
