-- Bit patterns of doubles: the pattern of 53 digits and a power, and the parts of the pattern of a value above zero.
use mathlib.Core.Bool.{Bool, true, false, cond}
use mathlib.Core.Path.{◌≡◌, refl, sym, ap, ◌∙◌, subst}
use Prim.Native.Nat.{ℕ, zero, suc, ◌+◌, ◌-◌, ◌*◌, ◌/◌, ◌%◌, ◌^◌, ◌≤◌, ◌<◌}
use native.Mathlib.Nat.{mul-one, mul-div_cancel, zero-lt-suc, le_of_suc-le-suc, add_comm, suc-ne-zero}
use native.Mathlib.Omega.{arith}
use borrow.Author.Tests.{lt-leb, leb-false, ne_eqb, eqb-false}
use lib.Arith.{lt_of_le-ne}
use lib.Dec.{T, leb, eqb}
use lib.Ieee.{Float, nan, inf, fin, binary64, down, odd, of_bits, of_fields, is_nan, nan_bits}
use lib.Ieee.Bits.{nan_bits_is}
use lib.Ieee.Digits.{Equals, odd_val}
use lib.Ieee.Fits.{down_pos}
use lib.Ieee.Positive.{positive}
use Rattle.root.specs.Root.{units_of}

-- ---- the pattern of a number of 53 digits
pub of_pattern : (h s : ℕ) → h < 2046 → 2 ^ 52 ≤ s → s < 2 ^ 53 → of_bits binary64 (h * 2 ^ 52 + s) ≡ odd 53 false s h 1074
unfolding of_bits of_fields
of_pattern h s a b c =
    let n = h * 2 ^ 52 + s in
    let e1 : leb (2 ^ 63) n ≡ false = lt-leb (2 ^ 63) n (omega arith) in
    let e2 : n % 2 ^ 63 / 2 ^ 52 ≡ suc h = omega arith in
    let e3 : n % 2 ^ 52 ≡ s - 2 ^ 52 = omega arith in
    let e4 : eqb (suc h) 2047 ≡ false = ne_eqb (suc h) 2047 (λ e. omega arith) in
    let e5 : 2 ^ 52 + (s - 2 ^ 52) ≡ s = omega arith in
    (λ i. of_fields binary64 (e1 i) (e2 i) (e3 i))
    ∙ ap (λ (t : Bool). cond t (cond (eqb (s - 2 ^ 52) 0) (inf false) nan) (odd 53 false (2 ^ 52 + (s - 2 ^ 52)) h 1074)) e4
    ∙ ap (λ (q : ℕ). odd 53 false q h 1074) e5

odd_is_number : (d : ℕ) (s : Bool) (q k l : ℕ) → is_nan (odd d s q k l) ≡ false
unfolding odd is_nan
odd_is_number d s zero k l = refl
odd_is_number d s (suc q) k l = refl

pub of_pattern_number : (h s : ℕ) → h < 2046 → 2 ^ 52 ≤ s → s < 2 ^ 53 → nan_bits binary64 (h * 2 ^ 52 + s) ≡ false
of_pattern_number h s a b c = nan_bits_is binary64 (h * 2 ^ 52 + s) ∙ ap is_nan (of_pattern h s a b c) ∙ odd_is_number 53 false s h 1074

-- ---- a value in units of the least double
pub units_of_lem : (x : Float) (a : ℕ) → Equals x a (2 ^ 1074) → units_of x ≡ a
units_of_lem nan a h = elim h [ ]
units_of_lem (inf _) a h = elim h [ ]
units_of_lem (fin s m e) a h = ap (λ (n : ℕ). n / down e) h ∙ mul-div_cancel a (down_pos e)

odd_units : (s : Bool) (q k : ℕ) → units_of (odd 53 s q k 1074) ≡ q * 2 ^ k
odd_units s q k = units_of_lem (odd 53 s q k 1074) (q * 2 ^ k) (odd_val 53 s q k 1074)

-- ---- the parts of a pattern: the exponent's field and the 52 digits below the leading one
odd_negative : (d q k l : ℕ) → T (positive (odd d true q k l)) → ⊥
unfolding odd
odd_negative d zero k l t = t
odd_negative d (suc q) k l t = t

odd_some : (d q k l : ℕ) → T (positive (odd d false q k l)) → 0 < q
unfolding odd
odd_some d zero k l t = absurd t
odd_some d (suc q) k l t = zero-lt-suc q

pub record Parts (x : Float) (field low : ℕ) : Type 0 where
  pub field_small : field < 2047
  pub some : 0 < field + low
  pub none : field ≡ 0 → units_of x ≡ low
  pub more : (field ≡ 0 → ⊥) → units_of x ≡ (low + 2 ^ 52) * 2 ^ (field - 1)

fields_negative : (f t : ℕ) → T (positive (of_fields binary64 true f t)) → ⊥
unfolding of_fields
fields_negative zero t p = odd_negative 53 t 0 1074 p
fields_negative (suc f) t p = go (eqb (suc f) 2047) (eqb t 0) p
  where
    go : (a b : Bool) → T (positive (cond a (cond b (inf true) nan) (odd 53 true (2 ^ 52 + t) f 1074))) → ⊥
    go true true p = p
    go true false p = p
    go false b p = odd_negative 53 (2 ^ 52 + t) f 1074 p

fields_parts : (f t : ℕ) → T (positive (of_fields binary64 false f t)) → f < 2048 → Parts (of_fields binary64 false f t) f t
unfolding of_fields
fields_parts zero t p h = record { field_small = omega arith; some = omega (arith, odd_some 53 t 0 1074 p); none = λ e. odd_units false t 0 ∙ mul-one t; more = λ n. absurd (n refl) }
fields_parts (suc f) t p h = go (eqb (suc f) 2047) (eqb t 0) refl p
  where
    go : (a b : Bool) → eqb (suc f) 2047 ≡ a → T (positive (cond a (cond b (inf false) nan) (odd 53 false (2 ^ 52 + t) f 1074)))
        → Parts (cond a (cond b (inf false) nan) (odd 53 false (2 ^ 52 + t) f 1074)) (suc f) t
    go true true e p = absurd p
    go true false e p = absurd p
    go false b e p =
        let n : suc f ≡ 2047 → ⊥ = eqb-false (suc f) 2047 e in
        let g : f ≡ suc f - 1 = omega arith in
        record {
          field_small = lt_of_le-ne (le_of_suc-le-suc h) n;
          some = omega arith;
          none = λ z. absurd (suc-ne-zero f z);
          more = λ z. odd_units false (2 ^ 52 + t) f ∙ (λ i. add_comm (2 ^ 52) t i * 2 ^ g i);
        }

pub parts : (b : ℕ) → b < 2 ^ 64 → T (positive (of_bits binary64 b)) → Parts (of_bits binary64 b) (b / 2 ^ 52) (b % 2 ^ 52)
unfolding of_bits
parts b h p = go (leb (2 ^ 63) b) refl
  where
    go : (s : Bool) → leb (2 ^ 63) b ≡ s → Parts (of_bits binary64 b) (b / 2 ^ 52) (b % 2 ^ 52)
    go true e = absurd (fields_negative (b % 2 ^ 63 / 2 ^ 52) (b % 2 ^ 52) (subst (λ (z : Bool). T (positive (of_fields binary64 z (b % 2 ^ 63 / 2 ^ 52) (b % 2 ^ 52)))) e p))
    go false e =
        let l : b < 2 ^ 63 = leb-false (2 ^ 63) b e in
        let f : b % 2 ^ 63 / 2 ^ 52 ≡ b / 2 ^ 52 = omega arith in
        let is : of_bits binary64 b ≡ of_fields binary64 false (b / 2 ^ 52) (b % 2 ^ 52) = λ i. of_fields binary64 (e i) (f i) (b % 2 ^ 52) in
        subst (λ (x : Float). Parts x (b / 2 ^ 52) (b % 2 ^ 52)) (sym is)
        (fields_parts (b / 2 ^ 52) (b % 2 ^ 52) (subst (λ (x : Float). T (positive x)) is p) (omega arith))
