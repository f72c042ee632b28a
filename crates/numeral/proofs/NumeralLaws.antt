-- Counts and numerals: one law for each answer of the code.
use mathlib.Core.Bool.{Bool, true, false, cond}
use mathlib.Core.List.{[]}
use mathlib.Core.Option.{none, some}
use mathlib.Core.Path.{◌≡◌, refl, sym, ap, ◌∙◌}
use Prim.Native.Nat.{ℕ, ◌+◌, ◌≤◌, ◌<◌, min}
use native.Mathlib.Nat.{add-zero}
use native.Mathlib.Omega.{arith}
use borrow.Author.Tests.{lt-ltb, le-ltb}
use lib.Dec.{ltb}
use lib.ListN.{length, take, drop, drop_of_length-le}
use Rattle.std.specs.Prelude.{Some, None}
use Rattle.laws.specs.Bytes.{Bytes, byte}
use Rattle.numeral_parts.proofs.DigitLaws.{digits_few, digits_many, digits_bad, digits_good, short_value}
use Rattle.numeral_parts.proofs.PartLaws.{mantissa_bad, mantissa_is}
use Rattle.numeral.proofs.TenLaws.{number_capped}
use Rattle.numeral.specs.Count.{count_of}
use Rattle.numeral_parts.specs.Digits.{digits, value_from, value_of}
use Rattle.numeral.specs.Numeral.{refusal, mantissa, exponent, well_formed, coefficient, number_of, numeral_of}
use Rattle.numeral.specs.Powered.{powered_by}
use Rattle.numeral_parts.specs.Parts.{before, behind, has, index_of, is_mark, is_point, is_mantissa, is_exponent, negative, unsigned}
use Rattle.numeral_parts.specs.Read.{either, mantissa_in, scaled, exponent_in}
use Rattle.numeral_parts.specs.Saturated.{limit, saturated}
use Rattle.numeral_parts.specs.declared.Exponent.TheVariants.{Up, Down}
use Rattle.numeral.specs.Numeral as n

-- ---- counts

module _ (w : Bytes) where
  count_refused : digits 1 5 w ≡ false → none ≡ count_of w
  unfolding count_of
  count_refused e = rw e

  pub count_none : length w ≡ 0 → none ≡ count_of w
  count_none h = count_refused (digits_few 1 5 w (omega arith))

  pub count_long : 5 < length w → none ≡ count_of w
  count_long h = count_refused (digits_many 1 5 w h)

  pub count_bad : None ≡ saturated 0 w → none ≡ count_of w
  count_bad e = count_refused (digits_bad 1 5 w e)

  pub count_good : (length w ≡ 0 → ⊥) → length w ≤ 5 → (n : ℕ) → Some n ≡ saturated 0 w → some n ≡ count_of w
  unfolding count_of
  count_good h l n e = rw (digits_good 1 5 w (omega arith) l n e, (short_value n 5 w l (omega arith) e).0)

-- ---- numerals

mark_test : either (byte "e") (byte "E") ≡ is_mark
unfolding is_mark
mark_test = refl

-- without an exponent the power is 0 less the digits behind the point
up_none : (w : Bytes) → exponent w ≡ [] → n.up w ≡ 0
unfolding n.up negative unsigned value_from
up_none w e = rw e

down_none : (w : Bytes) → exponent w ≡ [] → n.down w ≡ length (behind is_point (mantissa w))
unfolding n.down negative unsigned value_from
down_none w e = rw e (add-zero (length (behind is_point (mantissa w))))

module _ (w body : Bytes) (mark : ℕ) (b : body ≡ unsigned w) (m : mark ≡ index_of (either (byte "e") (byte "E")) body) where
  at_mark : mark ≡ index_of is_mark (unsigned w)
  at_mark = m ∙ (λ i. index_of (mark_test i) (b i))

  mantissa_there : take mark body ≡ mantissa w
  unfolding mantissa before
  mantissa_there = λ i. take (at_mark i) (b i)

  exponent_there : drop (mark + 1) body ≡ exponent w
  unfolding exponent behind
  exponent_there = λ i. drop (at_mark i + 1) (b i)

  has_mark : has is_mark (unsigned w) ≡ ltb mark (length body)
  unfolding has
  has_mark = λ i. ltb (sym at_mark i) (length (sym b i))

  pub numeral_bad : None ≡ mantissa_in (take mark body) → refusal 14 ≡ numeral_of w
  unfolding numeral_of well_formed
  numeral_bad e = rw (mantissa_bad (mantissa w) (e ∙ ap mantissa_in mantissa_there))

  module _ (c k : ℕ) (e : Some (scaled c k) ≡ mantissa_in (take mark body)) where
    facts : (is_mantissa (mantissa w) ≡ true) × (c ≡ min limit (coefficient w)) × (k ≡ length (behind is_point (mantissa w)))
    unfolding coefficient
    facts = mantissa_is (mantissa w) c k (e ∙ ap mantissa_in mantissa_there)

    -- the number, whose coefficient may be kept at the limit
    same_number : (u d : ℕ) → number_of (negative w) c u d ≡ number_of (negative w) (coefficient w) u d
    same_number u d = ap (λ (x : ℕ). number_of (negative w) x u d) facts.1 ∙ number_capped (negative w) (coefficient w) u d

    pub numeral_plain : length body ≤ mark → number_of (negative w) c 0 k ≡ numeral_of w
    unfolding numeral_of well_formed
    numeral_plain h =
        let none : exponent w ≡ [] = sym exponent_there ∙ drop_of_length-le body {i = mark + 1} (omega arith) in
        rw (facts.0, has_mark, le-ltb mark (length body) h)
        (same_number 0 k ∙ (λ i. number_of (negative w) (coefficient w) (sym (up_none w none) i) ((facts.2 ∙ sym (down_none w none)) i)))

    pub numeral_powered : mark < length body → powered_by (negative w) c k (exponent_in (drop (mark + 1) body)) ≡ numeral_of w
    unfolding numeral_of well_formed exponent_in n.up n.down
    numeral_powered h = rw (facts.0, has_mark, lt-ltb mark (length body) h, exponent_there) (go (is_exponent (exponent w)) (negative (exponent w)))
      where
        v : ℕ
        v = value_of (unsigned (exponent w))

        l : ℕ
        l = length (behind is_point (mantissa w))

        go : (t s : Bool) → powered_by (negative w) c k (cond t (Some (cond s (Down v) (Up v))) None) ≡ cond t (number_of (negative w) (coefficient w) (cond s 0 v) (l + cond s v 0)) (refusal 14)
        go true true = same_number 0 (k + v) ∙ ap (λ (x : ℕ). number_of (negative w) (coefficient w) 0 (x + v)) facts.2
        go true false = same_number v k ∙ ap (number_of (negative w) (coefficient w) v) (facts.2 ∙ sym (add-zero l))
        go false s = refl
