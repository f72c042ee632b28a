-- The parts of a numeral: one law for each answer of the code.
use mathlib.Core.Bool.{Bool, true, false, cond, not, ◌&&◌, and-false, or_self}
use mathlib.Core.List.{[], ◌∷◌, ◌++◌}
use mathlib.Core.Path.{◌≡◌, refl, sym, ap, ◌∙◌, fun_ext}
use Prim.Native.Nat.{ℕ, suc, ◌+◌, ◌-◌, ◌^◌, ◌≤◌, ◌<◌, min}
use native.Mathlib.Nat.{pow-le-pow_right}
use native.Mathlib.Omega.{arith}
use borrow.Author.Tests.{le-leb, lt-leb, lt-ltb, ltb-false}
use lib.Dec.{leb, ltb, eqb}
use lib.ListN.{length, take, drop, get_or, length-take, length-drop}
use denote.Ref.{Bor}
use Rattle.std.specs.Prelude.{Option, Some, None, nat_lt, position, unwrap_or}
use Rattle.std.specs.Option.{option_eq}
use Rattle.std.specs.Slice.{IsItemAt}
use Rattle.std.specs.List.{position_or_len}
use Rattle.std.proofs.lemmas.List.Recursion.{is_position_or_len}
use Rattle.laws.proofs.ListLaws.{rest_of}
use Rattle.laws.proofs.RunLaws.{run_length}
use Rattle.laws.specs.Bytes.{Bytes, byte}
use Rattle.laws.specs.Runs.{all, run}
use Rattle.numeral_parts.proofs.DigitLaws.{value_below, digits_all, digits_most, row_bad, row_good, row_value, value_append, value_capped, digits_few, digits_many, digits_bad, digits_good, short_value}
use Rattle.numeral_parts.specs.Digits.{digits, is_digit, value_from, value_of}
use Rattle.numeral_parts.specs.Parts.{before, behind, index_of, is_point, is_sign, is_mantissa, is_exponent, negative, unsigned}
use Rattle.numeral_parts.specs.Read.{either, mantissa_in, scaled, exponent_in}
use Rattle.numeral_parts.specs.Saturated.{limit, saturated}
use Rattle.numeral_parts.specs.declared.Exponent.TheVariants.{Up, Down}
use Rattle.numeral_parts.specs.declared.Mantissa.{Mantissa}

-- ---- the sign

-- what a comparison of the byte that is read at a place says
pub byte_there : (w : Bytes) (i : ℕ) (r : Option (Bor ℕ)) (b : Bor ℕ) → IsItemAt w i r → option_eq (λ x y. eqb x.now y.now) r (Some b) ≡ (ltb i (length w) && eqb (get_or w i 0) b.now)
byte_there w i None b h = rw (← h.0)
byte_there w i (Some x) b h = rw (← h.0, ← h.4 (omega arith) 0)

pub negative_there : (w : Bytes) → (ltb 0 (length w) && eqb (get_or w 0 0) (byte "-")) ≡ negative w
unfolding negative
negative_there [] = refl
negative_there (b ∷ w) = rw (lt-ltb 0 (length (b ∷ w)) (omega arith))

pub negative_first : (w : Bytes) → (length w ≡ 0 → ⊥) → eqb (get_or w 0 0) (byte "-") ≡ negative w
unfolding negative
negative_first [] h = absurd (h refl)
negative_first (b ∷ w) h = refl

pub unsigned_none : (w : Bytes) → length w ≡ 0 → w ≡ unsigned w
unfolding unsigned
unsigned_none [] e = refl
unsigned_none (b ∷ w) e = absurd (omega arith)

pub unsigned_sign : (w : Bytes) → (length w ≡ 0 → ⊥) → is_sign (get_or w 0 0) ≡ true → take (length w - 1) (drop 1 w) ≡ unsigned w
unfolding unsigned
unsigned_sign [] h e = absurd (h refl)
unsigned_sign (b ∷ w) h e = rest_of 1 (b ∷ w) ∙ rw e

pub unsigned_plain : (w : Bytes) → (length w ≡ 0 → ⊥) → is_sign (get_or w 0 0) ≡ false → w ≡ unsigned w
unfolding unsigned
unsigned_plain [] h e = absurd (h refl)
unsigned_plain (b ∷ w) h e = rw e

-- ---- the place of a byte

index_step : (test : ℕ → Bool) (b : ℕ) (w : Bytes) → index_of test (b ∷ w) ≡ cond (test b) 0 (1 + index_of test w)
unfolding index_of run
index_step test b w = go (test b)
  where
    go : (t : Bool) → cond (not t) (suc (run (λ b. not (test b)) w)) 0 ≡ cond t 0 (1 + run (λ b. not (test b)) w)
    go true = refl
    go false = omega arith

pub index_most : (test : ℕ → Bool) (w : Bytes) → index_of test w ≤ length w
unfolding index_of
index_most test w = run_length (λ b. not (test b)) w

-- std's word for the same index
pub index_found : (test : ℕ → Bool) (w : Bytes) → unwrap_or (position test w) (length w) ≡ index_of test w
unfolding index_of run
index_found test w = go (nat_lt (position_or_len test w) (length w)) refl
  where
    same : index_of test w ≡ position_or_len test w
    same = is_position_or_len (index_of test) test refl (index_step test) w

    go : (t : Bool) → nat_lt (position_or_len test w) (length w) ≡ t → unwrap_or (cond t (Some (position_or_len test w)) None) (length w) ≡ index_of test w
    go true e = sym same
    go false e = omega (arith, same, index_most test w, ltb-false (position_or_len test w) (length w) e)

-- ---- the mantissa

point_test : either (byte ".") (byte ".") ≡ is_point
unfolding is_point
point_test = fun_ext (λ b. or_self (eqb b (byte ".")))

module _ (w : Bytes) (point : ℕ) (fraction : Bytes) (p : point ≡ index_of (either (byte ".") (byte ".")) w) (f : fraction ≡ drop (point + 1) w) where
  at_point : point ≡ index_of is_point w
  at_point = p ∙ ap (λ (t : ℕ → Bool). index_of t w) point_test

  whole_is : take point w ≡ before is_point w
  unfolding before
  whole_is = ap (λ (n : ℕ). take n w) at_point

  fraction_is : fraction ≡ behind is_point w
  unfolding behind
  fraction_is = f ∙ ap (λ (n : ℕ). drop (n + 1) w) at_point

  whole_length : length (take point w) ≡ point
  whole_length = omega (arith, length-take point w, index_most is_point w, at_point)

  -- the definition, over the code's own parts
  over_parts : mantissa_in w ≡ cond (all is_digit (take point w) && all is_digit fraction && leb 1 (length (take point w) + length fraction)) (Some (scaled (min limit (value_of (take point w ++ fraction))) (length fraction))) None
  unfolding mantissa_in is_mantissa
  over_parts = rw (whole_is, fraction_is)

  pub mantissa_empty : point + length fraction ≡ 0 → None ≡ mantissa_in w
  mantissa_empty e = sym (over_parts ∙ rw (lt-leb 1 (length (take point w) + length fraction) (omega (arith, whole_length)), and-false))

  pub mantissa_whole_bad : None ≡ saturated 0 (take point w) → None ≡ mantissa_in w
  mantissa_whole_bad e = sym (over_parts ∙ rw (row_bad 0 (take point w) e))

  pub mantissa_fraction_bad : (n : ℕ) → None ≡ saturated n fraction → None ≡ mantissa_in w
  mantissa_fraction_bad n e = sym (over_parts ∙ rw (row_bad n fraction e, and-false))

  pub mantissa_good : (point + length fraction ≡ 0 → ⊥) → (n m : ℕ) → Some n ≡ saturated 0 (take point w) → Some m ≡ saturated n fraction → Some (scaled m (length fraction)) ≡ mantissa_in w
  mantissa_good h n m e g =
      let c : m ≡ min limit (value_of (take point w ++ fraction)) =
      row_value n m fraction g ∙ ap (λ (x : ℕ). min limit (value_from x fraction)) (row_value 0 n (take point w) e)
      ∙ value_capped (value_of (take point w)) fraction ∙ ap (min limit) (sym (value_append 0 (take point w) fraction)) in
      sym (over_parts ∙ rw (row_good 0 n (take point w) e, row_good n m fraction g, le-leb 1 (length (take point w) + length fraction) (omega (arith, whole_length)), c))

-- ---- the exponent

module _ (w d : Bytes) (u : d ≡ unsigned w) where
  exponent_refused : digits 1 3 d ≡ false → None ≡ exponent_in w
  unfolding exponent_in is_exponent
  exponent_refused e = rw (← u, e)

  pub exponent_none : length d ≡ 0 → None ≡ exponent_in w
  exponent_none h = exponent_refused (digits_few 1 3 d (omega arith))

  pub exponent_long : 3 < length d → None ≡ exponent_in w
  exponent_long h = exponent_refused (digits_many 1 3 d h)

  pub exponent_bad : None ≡ saturated 0 d → None ≡ exponent_in w
  exponent_bad e = exponent_refused (digits_bad 1 3 d e)

  module _ (h : length d ≡ 0 → ⊥) (l : length d ≤ 3) (n : ℕ) (e : Some n ≡ saturated 0 d) where
    pub exponent_good : (s : Bool) → s ≡ negative w → Some (cond s (Down n) (Up n)) ≡ exponent_in w
    unfolding exponent_in is_exponent
    exponent_good s g = rw (← u, ← g, digits_good 1 3 d (omega arith) l n e, (short_value n 3 d l (omega arith) e).0)

-- ---- what the answers say

-- an exponent is below 1,000
pub exponent_below : (e : Bytes) (n : ℕ) → Some (Down n) ≡ exponent_in e → n < 1000
unfolding exponent_in is_exponent
exponent_below e n = go (digits 1 3 (unsigned e)) (negative e) refl
  where
    v : ℕ
    v = value_of (unsigned e)

    go : (t s : Bool) → digits 1 3 (unsigned e) ≡ t → Some (Down n) ≡ cond t (Some (cond s (Down v) (Up v))) None → n < 1000
    go true true d q =
        let h : n ≡ v = cc in
        let b = value_below 0 (unsigned e) (digits_all 1 3 (unsigned e) d) in
        let p : 10 ^ length (unsigned e) ≤ 10 ^ 3 = pow-le-pow_right {n = 10} (omega arith) (digits_most 1 3 (unsigned e) d) in
        omega arith
    go true false d q = let z : ◌≡◌ {A = ℕ} 0 1 = cc in absurd (omega arith)
    go false s d q = let z : ◌≡◌ {A = ℕ} 0 1 = cc in absurd (omega arith)

pub mantissa_bad : (m : Bytes) → None ≡ mantissa_in m → is_mantissa m ≡ false
unfolding mantissa_in
mantissa_bad m = go (is_mantissa m)
  where
    go : (t : Bool) → None ≡ cond t (Some (scaled (min limit (value_of (before is_point m ++ behind is_point m))) (length (behind is_point m)))) None → t ≡ false
    go true e = cc
    go false e = refl

pub mantissa_is : (m : Bytes) (c k : ℕ) → Some (scaled c k) ≡ mantissa_in m → (is_mantissa m ≡ true) × (c ≡ min limit (value_of (before is_point m ++ behind is_point m))) × (k ≡ length (behind is_point m))
unfolding mantissa_in
mantissa_is m c k = go (is_mantissa m)
  where
    v : ℕ
    v = min limit (value_of (before is_point m ++ behind is_point m))

    l : ℕ
    l = length (behind is_point m)

    go : (t : Bool) → Some (scaled c k) ≡ cond t (Some (scaled v l)) None → (t ≡ true) × (c ≡ v) × (k ≡ l)
    go true e = let h : scaled c k ≡ scaled v l = cc in (refl, ap (λ (x : Mantissa). x.coefficient) h, ap (λ (x : Mantissa). x.after) h)
    go false e = let z : ◌≡◌ {A = ℕ} 0 1 = cc in absurd (omega arith)

-- no part is longer than the whole
pub unsigned_most : (w : Bytes) → length (unsigned w) ≤ length w
unfolding unsigned
unsigned_most [] = omega arith
unsigned_most (b ∷ w) = go (is_sign b)
  where
    go : (t : Bool) → length (cond t w (b ∷ w)) ≤ suc (length w)
    go true = omega arith
    go false = omega arith

pub after_most : (m : Bytes) (c k : ℕ) → Some (scaled c k) ≡ mantissa_in m → k ≤ length m
unfolding behind
after_most m c k e = omega (arith, (mantissa_is m c k e).2, length-drop (index_of is_point m + 1) m)
