-- A count in base ten reads as the count.
use mathlib.Core.Bool.{Bool, true, false, cond}
use mathlib.Core.List.{[], ◌∷◌, ◌++◌}
use mathlib.Core.Option.{none, some}
use mathlib.Core.Path.{◌≡◌, refl, ap, ◌∙◌, subst}
use Prim.Native.Nat.{ℕ, zero, suc, ◌+◌, ◌*◌, ◌-◌, ◌/◌, ◌%◌, ◌^◌, ◌≤◌, ◌<◌}
use native.Mathlib.Nat.{pow-le-pow_right}
use native.Mathlib.Omega.{arith}
use borrow.Author.Tests.{le-leb}
use lib.ListN.{length, length-append}
use Rattle.buffer.proofs.DecimalLaws.{tenth, decimal_digits}
use Rattle.buffer.specs.Decimal.{digits, decimal}
use Rattle.laws.proofs.BoolLaws.{and_left, and_right}
use Rattle.laws.specs.Bytes.{Bytes}
use Rattle.laws.specs.Runs.{all}
use Rattle.lexer.specs.Class.{is_good}
use Rattle.numeral_parts.proofs.DigitLaws.{digit_low, digit_high, value_append, value_below, digits_all, digits_most}
use Rattle.numeral.specs.Count.{count_of}
use Rattle.numeral_parts.specs.Digits as rows
use Rattle.numeral_parts.specs.Digits.{is_digit, value_from, value_of}
use Rattle.tidying.specs.Proper.{Good}

-- ---- a count that was read

pub count_below : (w : Bytes) (k : ℕ) → count_of w ≡ some k → k < 10 ^ 5
unfolding count_of
count_below w k e = go (rows.digits 1 5 w) refl e
  where
    go : (b : Bool) → rows.digits 1 5 w ≡ b → cond b (some (value_of w)) none ≡ some k → k < 10 ^ 5
    go true d q =
        let v : value_of w ≡ k = cc in
        let h = value_below 0 w (digits_all 1 5 w d) in
        let p : 10 ^ length w ≤ 10 ^ 5 = pow-le-pow_right {n = 10} (omega arith) (digits_most 1 5 w d) in
        omega arith
    go false d q = let z : ◌≡◌ {A = ℕ} 0 1 = cc in absurd (omega arith)

-- ---- the digits of a number

-- a row of at most so many digits that reads as a number
record Spells (most n : ℕ) (w : Bytes) : Type 0 where
  digits : all is_digit w ≡ true
  short : length w ≤ most
  value : value_of w ≡ n

pub all_snoc : (test : ℕ → Bool) (w : Bytes) (b : ℕ) → all test w ≡ true → test b ≡ true → all test (w ++ b ∷ []) ≡ true
unfolding all
all_snoc test [] b h e = rw e
all_snoc test (c ∷ w) b h e = rw (and_left (test c) (all test w) h) (all_snoc test w b (and_right (test c) (all test w) h) e)

digit : (d : ℕ) → d < 10 → is_digit (48 + d) ≡ true
unfolding is_digit
digit d h = rw (le-leb 48 (48 + d) (omega arith), le-leb (48 + d) 57 (omega arith))

spells_more : (k n : ℕ) (w : Bytes) → Spells k (n / 10) w → Spells (suc k) n (w ++ (48 + n % 10) ∷ [])
unfolding value_from
spells_more k n w h =
    let l = length-append w ((48 + n % 10) ∷ []) in
    let s = h.short in
    let v : value_of w * 10 + (48 + n % 10 - 48) ≡ n = rw h.value (omega arith) in
    record {
      digits = all_snoc is_digit w (48 + n % 10) h.digits (digit (n % 10) (omega arith));
      short = omega arith;
      value = value_append 0 w ((48 + n % 10) ∷ []) ∙ v;
    }

spells : (k n : ℕ) → n < 10 ^ k → Spells k n (digits k n)
unfolding digits value_from all
spells zero n h = record { digits = refl; short = omega arith; value = omega arith }
spells (suc k) zero h = record { digits = refl; short = omega arith; value = refl }
spells (suc k) (suc n) h = spells_more k (suc n) (digits k (suc n / 10)) (spells k (suc n / 10) (tenth k (suc n) h))

filled : (k n : ℕ) → 0 < n → n < 10 ^ k → 0 < length (digits k n)
unfolding digits
filled zero n p h = absurd (omega arith)
filled (suc k) zero p h = absurd (omega arith)
filled (suc k) (suc n) p h = omega (arith, length-append (digits k (suc n / 10)) ((48 + suc n % 10) ∷ []))

-- ---- a count that is written

record Written (n : ℕ) (w : Bytes) : Type 0 where
  filled : 0 < length w
  spells : Spells 5 n w

written : (k : ℕ) → k < 10 ^ 5 → Written k (decimal k)
unfolding decimal value_from all is_digit
written zero h = record { filled = omega arith; spells = record { digits = refl; short = omega arith; value = refl } }
written (suc k) h = subst (Written (suc k)) (decimal_digits 5 (suc k) (omega arith) h) (record { filled = filled 5 (suc k) (omega arith) h; spells = spells 5 (suc k) h })

all_good : (w : Bytes) → all is_digit w ≡ true → all is_good w ≡ true
unfolding all is_good
all_good [] h = refl
all_good (b ∷ w) h =
    let d = and_left (is_digit b) (all is_digit w) h in
    let l = digit_low b d in
    let m = digit_high b d in
    rw (le-leb 33 b (omega arith), le-leb b 126 (omega arith)) (all_good w (and_right (is_digit b) (all is_digit w) h))

module _ (k : ℕ) (few : k < 10 ^ 5) where
  pub count_good : Good (decimal k)
  count_good =
      let w = written k few in
      let s = w.spells.short in
      record { filled = w.filled; good = all_good (decimal k) w.spells.digits; short = omega arith }

  pub count_reads : count_of (decimal k) ≡ some k
  unfolding count_of rows.digits
  count_reads =
      let w = written k few in
      rw (le-leb 1 (length (decimal k)) w.filled, le-leb (length (decimal k)) 5 w.spells.short, w.spells.digits) (ap some w.spells.value)
