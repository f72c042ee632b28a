-- A rounding that is finite is the float nearest to its fraction, and the even one of two that are as near; and no other float is.
use mathlib.Core.Bool.{Bool, true, false, not, beq, cond, ◌&&◌, ◌||◌}
use mathlib.Core.Logic.{◌⊎◌, inl, inr}
use mathlib.Core.Path.{◌≡◌, refl, sym, ap, ◌∙◌, subst}
use Prim.Native.Nat.{ℕ, zero, suc, ◌+◌, ◌-◌, ◌*◌, ◌/◌, ◌%◌, ◌^◌, ◌≤◌, ◌<◌}
use native.Mathlib.Nat.{le_trans, le_of_eq, le_antisymm, not-le_of_lt, mul-one, zero-mul, add-mul, mul_comm, mul_assoc, mul_right_comm, mul-sub, mul-pos, mul-le-mul_right, le_of_mul-le-mul_right, eq_of_mul-eq-mul_right, mul-div_cancel, zero-lt-suc}
use native.Mathlib.Omega.{arith}
use lib.Dec.{T, leb, ltb, eqb, leb→le, ltb→lt, eqb→eq, eqb_refl}
use lib.Ieee.{Float, nan, inf, fin, Format, binary32, binary64, prec, emax, low, up, down, size, odd, units, round, fits, ne, eq, to_bits, hid, top, of_bits}
use lib.Ieee.Bits.{of_bits-to_bits}
use lib.Ieee.Exact.{HasValue, units_val}
use lib.Ieee.Fits.{two, two-le_pos, down_pos, and_l, and_r, round_is, round-fits}
use lib.Ieee.Order.{drop, kept}
use lib.Ieee.Positive.{num, den, den_pos}
use lib.Ieee.Scale.{finite, grid, overflow}
use lib.IntN.{ℤ, pos, negsuc}
use lib.Pow.{pow-add, pow_pos, pow-lt}
use Rattle.rounding.specs.Nearest.{sign, apart, off, Nearest}
use Rattle.rounding.proofs.ClosestLaws.{which, gap, Best, lead, lead_even, Ties, kept_le, kept_ge, grid_best}

-- ---- a finite float of the format is q * 2 ^ j of its smallest values, with a q of as many digits as the format keeps
record Units (f : Format) (y : Float) : Type 0 where
  digits : ℕ
  power : ℕ
  small : digits < 2 ^ prec f
  is : num y * 2 ^ low f ≡ digits * 2 ^ power * den y

pow_back : (a l : ℕ) → 2 ^ a ≤ 2 ^ l → a ≤ l
pow_back a l h = elim (which a l) [ inl g ↦ g | inr g ↦ absurd (not-le_of_lt (pow-lt g) h) ]

power_of : (l m : ℕ) (e : ℤ) → down e ≤ 2 ^ l → (j : ℕ) × (m * up e * 2 ^ l ≡ m * 2 ^ j * down e)
power_of l m (pos k) h = (k + l, mul_assoc m (2 ^ k) (2 ^ l) ∙ ap (λ (x : ℕ). m * x) (sym (pow-add 2 k l)) ∙ sym (mul-one (m * 2 ^ (k + l))))
power_of l m (negsuc k) h =
    let g : suc k ≤ l = pow_back (suc k) l h in
    let e : l ≡ l - suc k + suc k = omega arith in (
      l - suc k,
      ap (λ (x : ℕ). x * 2 ^ l) (mul-one m) ∙ ap (λ (x : ℕ). m * x) (ap (λ (j : ℕ). 2 ^ j) e ∙ pow-add 2 (l - suc k) (suc k)) ∙ sym (mul_assoc m (2 ^ (l - suc k)) (2 ^ suc k)),
    )

units_of_lem : (f : Format) (y : Float) → T (fits f y) → T (finite y) → Units f y
unfolding fits
units_of_lem f nan t g = absurd g
units_of_lem f (inf s) t g = absurd g
units_of_lem f (fin s zero e) t g = record {
  digits = 0;
  power = 0;
  small = pow_pos (prec f);
  is = ap (λ (x : ℕ). x * 2 ^ low f) (zero-mul (up e)) ∙ zero-mul (2 ^ low f) ∙ sym (zero-mul (down e));
}
units_of_lem f (fin s (suc m) e) t g =
    let a = eqb (suc m % 2) 1 in
    let b = ltb (suc m) (2 ^ prec f) in
    let c = leb (down e) (2 ^ low f) in
    let d = ltb (suc m * up e) (2 ^ suc (emax f) * down e) in
    let u = power_of (low f) (suc m) e (leb→le (down e) (2 ^ low f) (and_r (a && b) c (and_l (a && b && c) d t))) in
    record { digits = suc m; power = u.0; small = ltb→lt (suc m) (2 ^ prec f) (and_r a b (and_l (a && b) c (and_l (a && b && c) d t))); is = u.1 }

-- ---- a finite rounding, in units of the smallest value
units_finite : (f : Format) (s : Bool) (q k : ℕ) → T (finite (units f s q k)) → q * 2 ^ k < overflow f
unfolding units
units_finite f s q k = go (ltb (q * 2 ^ k) (overflow f)) (ltb→lt (q * 2 ^ k) (overflow f))
  where
    go : (b : Bool) → (T b → q * 2 ^ k < overflow f) → T (finite (cond b (odd (suc (prec f)) s q k (low f)) (inf s))) → q * 2 ^ k < overflow f
    go true h t = h tt
    go false h t = absurd t

round_value : (f : Format) (s : Bool) (a c : ℕ) → T (finite (round f s a c)) → HasValue (round f s a c) s (grid f a c) (2 ^ low f)
round_value f s a c t =
    let n = a * 2 ^ low f in
    let q = kept (prec f) n c in
    let k = drop (prec f) n c in
    subst (λ (z : Float). HasValue z s (grid f a c) (2 ^ low f)) (sym (round_is f s a c))
    (units_val f s q k (units_finite f s q k (subst (λ (z : Float). T (finite z)) (round_is f s a c) t)))

value_is : (x : Float) (s : Bool) (a c : ℕ) → HasValue x s a c → (sign x ≡ s) × (num x * c ≡ a * den x)
value_is nan s a c h = elim h [ ]
value_is (inf _) s a c h = elim h [ ]
value_is (fin t m e) s a c h = h

-- ---- distances as fractions, and in units
minus_mul : (a b l : ℕ) → (a - b) * l ≡ a * l - b * l
minus_mul a b l = mul_comm (a - b) l ∙ mul-sub l a b ∙ (λ i. mul_comm l a i - mul_comm l b i)

apart_mul : (s : Bool) (a : ℕ) (t : Bool) (b l : ℕ) → apart s a t b * l ≡ apart s (a * l) t (b * l)
apart_mul s a t b l = go (beq s t)
  where
    go : (z : Bool) → cond z (gap a b) (a + b) * l ≡ cond z (gap (a * l) (b * l)) (a * l + b * l)
    go true = add-mul (a - b) (b - a) l ∙ (λ i. minus_mul a b l i + minus_mul b a l i)
    go false = add-mul a b l

off_units : (l : ℕ) (s : Bool) (a c : ℕ) (y : Float) (Y : ℕ) → num y * l ≡ Y * den y → off s a c y * l ≡ apart s (a * l) (sign y) (Y * c) * den y
off_units l s a c y Y e =
    let d = den y in
    let p : a * d * l ≡ a * l * d = mul_right_comm a d l in
    let q : num y * c * l ≡ Y * c * d = mul_right_comm (num y) c l ∙ ap (λ (x : ℕ). x * c) e ∙ mul_right_comm Y d c in
    apart_mul s (a * d) (sign y) (num y * c) l ∙ (λ i. apart s (p i) (sign y) (q i)) ∙ sym (apart_mul s (a * l) (sign y) (Y * c) d)

module _ (l s' t' d e x y : ℕ) (L : 0 < l) (p : s' * l ≡ x * d) (q : t' * l ≡ y * e) where
  left_is : s' * e * l ≡ x * (d * e)
  left_is = mul_right_comm s' e l ∙ ap (λ (z : ℕ). z * e) p ∙ mul_assoc x d e

  right_is : t' * d * l ≡ y * (d * e)
  right_is = mul_right_comm t' d l ∙ ap (λ (z : ℕ). z * d) q ∙ mul_assoc y e d ∙ ap (λ (z : ℕ). y * z) (mul_comm e d)

  to_fractions : x ≤ y → s' * e ≤ t' * d
  to_fractions h = le_of_mul-le-mul_right (le_trans (le_of_eq left_is) (le_trans (mul-le-mul_right (d * e) h) (le_of_eq (sym right_is)))) L

  to_units : 0 < d → 0 < e → s' * e ≡ t' * d → x ≡ y
  to_units D E h = eq_of_mul-eq-mul_right (d * e) (mul-pos D E) x y (sym left_is ∙ ap (λ (z : ℕ). z * l) h ∙ right_is)

-- ---- with signs: a float of the other sign is no nearer than 0
other_side : {E O : Type 0} (K X n Y : ℕ) → (X ≡ 0 → K ≡ 0) → Best ((K % 2 ≡ 0) × O) X n 0 → (gap n X ≤ n + Y) × (gap n X ≡ n + Y → E ⊎ (K % 2 ≡ 0))
other_side K X n Y z b =
    let g = b.0 in (
      omega arith,
      λ q. elim (b.1 (omega arith)) [ inl h ↦ inr (ap (λ (i : ℕ). i % 2) (z h)) | inr h ↦ inr h.0 ],
    )

same_side : {E O : Type 0} (K X n Y : ℕ) → (X ≡ Y → E) → Best ((K % 2 ≡ 0) × O) X n Y → (gap n X ≤ gap n Y) × (gap n X ≡ gap n Y → E ⊎ (K % 2 ≡ 0))
same_side K X n Y z b = (b.0, λ q. elim (b.1 q) [ inl h ↦ inl (z h) | inr h ↦ inr h.0 ])

signed_best : {O Q : Type 0} (K : ℕ) (s : Bool) (X n : ℕ) (t : Bool) (Y : ℕ) → (X ≡ 0 → K ≡ 0) → Best ((K % 2 ≡ 0) × O) X n 0 → Best ((K % 2 ≡ 0) × Q) X n Y
    → (apart s n s X ≤ apart s n t Y) × (apart s n s X ≡ apart s n t Y → ((s ≡ t) × (X ≡ Y)) ⊎ (K % 2 ≡ 0))
signed_best K true X n true Y z b c = same_side K X n Y (λ h. (refl, h)) c
signed_best K false X n false Y z b c = same_side K X n Y (λ h. (refl, h)) c
signed_best K true X n false Y z b c = other_side K X n Y z b
signed_best K false X n true Y z b c = other_side K X n Y z b

-- ---- two floats that are the same number are equal
same_number : (x y : Float) → T (finite x) → T (finite y) → sign x ≡ sign y → num x * den y ≡ num y * den x → T (ne x y) → ⊥
unfolding ne eq
same_number nan y g h e p t = absurd g
same_number (inf s) y g h e p t = absurd g
same_number (fin s m a) nan g h e p t = absurd h
same_number (fin s m a) (inf r) g h e p t = absurd h
same_number (fin s m a) (fin r n b) g h e p t = go (eqb (m * up a * down b) (n * up b * down a)) (subst (λ (z : ℕ). T (eqb (m * up a * down b) z)) p (eqb_refl (m * up a * down b))) s r e t
  where
    go : (z : Bool) → T z → (s r : Bool) → s ≡ r → T (not (z && (beq s r || eqb (m * up a * down b) 0))) → ⊥
    go true u true true e t = t
    go true u false false e t = t
    go true u true false e t = absurd (mathlib.Core.Bool.true≢false e)
    go true u false true e t = absurd (mathlib.Core.Bool.true≢false (sym e))
    go false u s r e t = u

-- ---- a float's pattern, and its last bit
bits_are : (f : Format) (x : Float) (s : Bool) (X : ℕ) → HasValue x s X (2 ^ low f) → to_bits f x ≡ cond s (top f) 0 + (size X - prec f) * hid f + lead (prec f) X
unfolding to_bits
bits_are f nan s X h = elim h [ ]
bits_are f (inf _) s X h = elim h [ ]
bits_are f (fin t m e) s X h =
    let is : m * up e * 2 ^ low f / down e ≡ X = ap (λ (z : ℕ). z / down e) h.1 ∙ mul-div_cancel X (down_pos e) in
    λ i. cond (h.0 i) (top f) 0 + (size (is i) - prec f) * hid f + lead (prec f) (is i)

last_bit : (f : Format) (s : Bool) (k d : ℕ) → (cond s (top f) 0 + k * hid f + d) % 2 ≡ d % 2
last_bit binary32 true k d = omega arith
last_bit binary32 false k d = omega arith
last_bit binary64 true k d = omega arith
last_bit binary64 false k d = omega arith

bit_is : (f : Format) (x : Float) (s : Bool) (X : ℕ) → HasValue x s X (2 ^ low f) → to_bits f x % 2 ≡ lead (prec f) X % 2
bit_is f x s X h = ap (λ (b : ℕ). b % 2) (bits_are f x s X h) ∙ last_bit f s (size X - prec f) (lead (prec f) X)

-- ---- a rounding that is finite
no_product : (q a b : ℕ) → 0 < a → 0 < b → q * a * b ≡ 0 → q ≡ 0
no_product zero a b A B e = refl
no_product (suc q) a b A B e = let h : 0 < suc q * a * b = mul-pos (mul-pos (zero-lt-suc q) A) B in absurd (omega arith)

module _ (f : Format) (s : Bool) (a c : ℕ) (C : 0 < c) (t : T (finite (round f s a c))) where
  abbrev n : ℕ
  n = a * 2 ^ low f

  abbrev K : ℕ
  K = kept (prec f) n c

  abbrev x : Float
  x = round f s a c

  P : 0 < prec f
  P = two-le_pos (prec f) (two f)

  value : (sign x ≡ s) × (num x * 2 ^ low f ≡ grid f a c * den x)
  value = value_is x s (grid f a c) (2 ^ low f) (round_value f s a c t)

  own_off : off s a c x * 2 ^ low f ≡ apart s n s (grid f a c * c) * den x
  own_off = off_units (2 ^ low f) s a c x (grid f a c) value.1 ∙ ap (λ (r : Bool). apart s n r (grid f a c * c) * den x) value.0

  module _ (y : Float) (fy : T (fits f y)) (gy : T (finite y)) where
    abbrev u : Units f y
    u = units_of_lem f y fy gy

    abbrev Y : ℕ
    Y = u.digits * 2 ^ u.power

    compared : (apart s n s (grid f a c * c) ≤ apart s n (sign y) (Y * c)) × (apart s n s (grid f a c * c) ≡ apart s n (sign y) (Y * c) → ((s ≡ sign y) × (grid f a c * c ≡ Y * c)) ⊎ (K % 2 ≡ 0))
    compared =
        signed_best K s (grid f a c * c) n (sign y) (Y * c) (no_product K (2 ^ drop (prec f) n c) c (pow_pos (drop (prec f) n c)) C)
        (subst (Best (Ties (prec f) K 0) (grid f a c * c) n) (zero-mul c) (grid_best (prec f) n c P C 0 0 (pow_pos (prec f))))
        (grid_best (prec f) n c P C u.digits u.power u.small)

    its_off : off s a c y * 2 ^ low f ≡ apart s n (sign y) (Y * c) * den y
    its_off = off_units (2 ^ low f) s a c y Y u.is

    least_ok : off s a c x * den y ≤ off s a c y * den x
    least_ok = to_fractions (2 ^ low f) (off s a c x) (off s a c y) (den x) (den y) (apart s n s (grid f a c * c)) (apart s n (sign y) (Y * c)) (pow_pos (low f)) own_off its_off compared.0

    same : grid f a c * c ≡ Y * c → num x * den y ≡ num y * den x
    same e =
        let g : grid f a c ≡ Y = eq_of_mul-eq-mul_right c C (grid f a c) Y e in
        eq_of_mul-eq-mul_right (2 ^ low f) (pow_pos (low f)) (num x * den y) (num y * den x)
        (left_is (2 ^ low f) (num x) (num y) (den x) (den y) (grid f a c) Y (pow_pos (low f)) value.1 u.is
        ∙ ap (λ (z : ℕ). z * (den x * den y)) g
        ∙ sym (right_is (2 ^ low f) (num x) (num y) (den x) (den y) (grid f a c) Y (pow_pos (low f)) value.1 u.is))

    even_ok : T (ne x y) → off s a c x * den y ≡ off s a c y * den x → to_bits f x % 2 ≡ 0
    even_ok d e =
        let z = to_units (2 ^ low f) (off s a c x) (off s a c y) (den x) (den y) (apart s n s (grid f a c * c)) (apart s n (sign y) (Y * c)) (pow_pos (low f)) own_off its_off (den_pos x) (den_pos y) e in
        elim (compared.1 z) [
          | inl h ↦ absurd (same_number x y t gy (value.0 ∙ h.0) (same h.1) d)
          | inr h ↦ bit_is f x s (grid f a c) (round_value f s a c t) ∙ lead_even (prec f) K (drop (prec f) n c) (two f) (kept_le (prec f) n c P C) (kept_ge (prec f) n c P C) h
        ]

  finite_nearest : Nearest f s a c x
  finite_nearest = record { held = round-fits f s a c; is_finite = t; same_sign = value.0; least = least_ok; even = even_ok }

pub round_nearest : (f : Format) (s : Bool) (a c : ℕ) → 0 < c → T (finite (round f s a c)) → Nearest f s a c (round f s a c)
round_nearest = finite_nearest

-- ---- nothing else is the nearest
apart_same : (s : Bool) (a b : ℕ) → apart s a s b ≡ gap a b
apart_same true a b = refl
apart_same false a b = refl

as_value : (z : Float) (s : Bool) (a c : ℕ) → T (finite z) → sign z ≡ s → num z * c ≡ a * den z → HasValue z s a c
as_value nan s a c g p q = absurd g
as_value (inf t) s a c g p q = absurd g
as_value (fin t m e) s a c g p q = (p, q)

same_or_other : (x y : Float) → T (finite x) → T (finite y) → (num x * den y ≡ num y * den x) ⊎ T (ne x y)
unfolding ne eq
same_or_other nan y g h = absurd g
same_or_other (inf s) y g h = absurd g
same_or_other (fin s m a) nan g h = absurd h
same_or_other (fin s m a) (inf r) g h = absurd h
same_or_other (fin s m a) (fin r n b) g h = go (eqb (m * up a * down b) (n * up b * down a)) (eqb→eq (m * up a * down b) (n * up b * down a)) (beq s r || eqb (m * up a * down b) 0)
  where
    go : (z : Bool) → (T z → m * up a * down b ≡ n * up b * down a) → (w : Bool) → (m * up a * down b ≡ n * up b * down a) ⊎ T (not (z && w))
    go true e w = inl (e tt)
    go false e w = inr tt

module _ (f : Format) (s : Bool) (a c : ℕ) (z : Float) (C : 0 < c) (t : T (finite (round f s a c))) (N : Nearest f s a c z) where
  abbrev r : Float
  r = round f s a c

  abbrev v : Units f z
  v = units_of_lem f z N.held N.is_finite

  abbrev Z : ℕ
  Z = v.digits * 2 ^ v.power

  its_value : HasValue z s Z (2 ^ low f)
  its_value = as_value z s Z (2 ^ low f) N.is_finite N.same_sign v.is

  alike : grid f a c ≡ Z → z ≡ r
  alike e =
      let bits : to_bits f z ≡ to_bits f r =
      bits_are f z s Z its_value ∙ ap (λ (X : ℕ). cond s (top f) 0 + (size X - prec f) * hid f + lead (prec f) X) (sym e) ∙ sym (bits_are f r s (grid f a c) (round_value f s a c t)) in
      sym (of_bits-to_bits f z N.held) ∙ ap (of_bits f) bits ∙ of_bits-to_bits f r (round-fits f s a c)

  as_near : off s a c r * den z ≡ off s a c z * den r
  as_near = le_antisymm (least_ok f s a c C t z N.held N.is_finite) (N.least r (round-fits f s a c) t)

  gaps : gap (a * 2 ^ low f) (grid f a c * c) ≡ gap (a * 2 ^ low f) (Z * c)
  gaps =
      let n = a * 2 ^ low f in
      sym (apart_same s n (grid f a c * c))
      ∙ to_units (2 ^ low f) (off s a c r) (off s a c z) (den r) (den z) (apart s n s (grid f a c * c)) (apart s n (sign z) (Z * c)) (pow_pos (low f)) (own_off f s a c C t) (off_units (2 ^ low f) s a c z Z v.is) (den_pos r) (den_pos z) as_near
      ∙ ap (λ (b : Bool). apart s n b (Z * c)) N.same_sign
      ∙ apart_same s n (Z * c)

  pub nearest_only : z ≡ r
  nearest_only =
      elim ((grid_best (prec f) (a * 2 ^ low f) c (two-le_pos (prec f) (two f)) C v.digits v.power v.small).1 gaps) [
        | inl e ↦ alike (eq_of_mul-eq-mul_right c C (grid f a c) Z e)
        | inr e ↦
            elim (same_or_other z r N.is_finite t) [
              | inl d ↦ alike (sym (to_units (2 ^ low f) (num z) (num r) (den z) (den r) Z (grid f a c) (pow_pos (low f)) v.is (value f s a c C t).1 (den_pos z) (den_pos r) d))
              | inr d ↦
                  let zero_bit : to_bits f z % 2 ≡ 0 = N.even r (round-fits f s a c) t d (sym as_near) in
                  let one_bit : to_bits f z % 2 ≡ 1 = bit_is f z s Z its_value ∙ e.1 in
                  absurd (omega arith)
            ]
      ]
