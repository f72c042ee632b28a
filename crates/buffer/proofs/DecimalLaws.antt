-- Digits of a number: one more in front, and as many as the number needs.
use mathlib.Core.List.{[], ◌∷◌, ◌++◌}
use mathlib.Core.Path.{◌≡◌, refl, sym, ap₂, subst, ◌∙◌}
use Prim.Native.Nat.{ℕ, zero, suc, ◌+◌, ◌*◌, ◌-◌, ◌/◌, ◌%◌, ◌^◌, ◌≤◌, ◌<◌}
use native.Mathlib.Nat.{pow-suc}
use native.Mathlib.Omega.{arith}
use lib.ListN.{length, length-append, set, drop}
use lib.Seq.{append_snoc, drop-cons, drop-set-lt, get_or-set_same, lt-length-set}
use Rattle.laws.specs.Bytes.{Bytes, bytes}
use Rattle.buffer.specs.Decimal.{digits, decimal}

pub digits_none : (k : ℕ) → digits k 0 ≡ []
unfolding digits
digits_none zero = refl
digits_none (suc k) = refl

digits_more : (k n : ℕ) → 0 < n → digits (suc k) n ≡ digits k (n / 10) ++ ((48 + n % 10) ∷ [])
unfolding digits
digits_more k zero h = absurd (omega arith)
digits_more k (suc n) h = refl

pub tenth : (k n : ℕ) → n < 10 ^ suc k → n / 10 < 10 ^ k
tenth k n h = let p : 10 ^ suc k ≡ 10 ^ k * 10 = pow-suc 10 k in omega arith

-- any count of digits that is enough for a number gives the same digits
abbrev Same : ℕ → ℕ → ℕ → Type 0
Same k j n = n < 10 ^ k → n < 10 ^ j → digits k n ≡ digits j n

same_more : (k : ℕ) → ((j n : ℕ) → Same k j n) → (j n : ℕ) → Same (suc k) j n
unfolding digits
same_more k ih j zero h i = sym (digits_none j)
same_more k ih zero (suc n) h i = absurd (omega arith)
same_more k ih (suc j) (suc n) h i = rw (ih j (suc n / 10) (tenth k (suc n) h) (tenth j (suc n) i))

same_digits : (k j n : ℕ) → Same k j n
unfolding digits
same_digits zero = λ j n h i. let z : n ≡ 0 = omega arith in rw z (sym (digits_none j))
same_digits (suc k) = same_more k (same_digits k)

holds : (n : ℕ) → n < 10 ^ n
holds zero = omega arith
holds (suc n) = let p : 10 ^ suc n ≡ 10 ^ n * 10 = pow-suc 10 n in omega (arith, holds n)

pub decimal_zero : (n : ℕ) → n ≡ 0 → decimal n ≡ bytes "0"
unfolding decimal
decimal_zero n e = rw e

-- the digits of a number that is not 0, for any count that is enough
pub decimal_digits : (k n : ℕ) → 0 < n → n < 10 ^ k → digits k n ≡ decimal n
unfolding decimal
decimal_digits k zero p h = absurd (omega arith)
decimal_digits k (suc n) p h = same_digits k (suc n) (suc n) h (holds (suc n))

digits_length : (k n : ℕ) → length (digits k n) ≤ k
unfolding digits
digits_length zero n = omega arith
digits_length (suc k) zero = omega arith
digits_length (suc k) (suc n) = let d = digits_length k (suc n / 10) in omega (arith, length-append (digits k (suc n / 10)) ((48 + suc n % 10) ∷ []))

pub decimal_length : (k n : ℕ) → n < 10 ^ k → 0 < k → length (decimal n) ≤ k
unfolding decimal
decimal_length k zero h p = omega arith
decimal_length k (suc n) h p = let e = decimal_digits k (suc n) (omega arith) h in subst (λ (w : Bytes). length w ≤ k) e (digits_length k (suc n))

-- the code spells from the back: a number that is left takes one digit more in front
module _ (text : Bytes) (rest : ℕ) (some : 0 < rest) where
  pub has_place : (i : ℕ) → rest < 10 ^ i → 1 ≤ i
  has_place zero h = absurd (omega arith)
  has_place (suc k) h = omega arith

  pub tenth_left : (i : ℕ) → rest < 10 ^ i → rest / 10 < 10 ^ (i - 1)
  tenth_left zero h = absurd (omega arith)
  tenth_left (suc k) h = let e : suc k - 1 ≡ k = omega arith in rw e (tenth k rest h)

  spelt_at : (k : ℕ) → k < length text → digits k (rest / 10) ++ drop k (set text k (48 + rest % 10)) ≡ digits (suc k) rest ++ drop (suc k) text
  spelt_at k h =
      let digit = 48 + rest % 10 in
      let behind : drop k (set text k digit) ≡ digit ∷ drop (suc k) text =
      drop-cons (set text k digit) k 0 (lt-length-set text k digit h)
      ∙ ap₂ (λ (x : ℕ) (s : Bytes). x ∷ s) (get_or-set_same text k digit 0 h) (drop-set-lt (suc k) text k digit (omega arith)) in
      rw (behind, digits_more k rest some) (sym (append_snoc (digits k (rest / 10)) digit (drop (suc k) text)))

  pub spelt : (i : ℕ) → rest < 10 ^ i → i ≤ length text → digits (i - 1) (rest / 10) ++ drop (i - 1) (set text (i - 1) (48 + rest % 10)) ≡ digits i rest ++ drop i text
  spelt zero h l = absurd (omega arith)
  spelt (suc k) h l = let e : suc k - 1 ≡ k = omega arith in rw e (spelt_at k (omega arith))
