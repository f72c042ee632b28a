-- Every numeral's value is finite.
use mathlib.Core.Bool.{Bool, true, false, cond, not, ◌&&◌, ◌||◌}
use mathlib.Core.Logic.{◌⊎◌, inl, inr, ⊎_elim}
use mathlib.Core.Path.{◌≡◌, refl, sym, ap, ◌∙◌, subst}
use Prim.Native.Nat.{ℕ, ◌+◌, ◌*◌, ◌^◌, ◌≤◌, ◌<◌}
use native.Mathlib.Nat.{mul-le-mul, pow-le-pow_right, le_trans, le_of_eq}
use native.Mathlib.Omega.{arith}
use borrow.Author.Tests.{ltb-true, leb-true, eqb-true}
use lib.Dec.{T, ltb, leb, eqb}
use lib.Ieee.{Float, nan, inf, fin, binary64, round, neg, le, lt, eq, is_nan}
use lib.Ieee.Order.{round_mono}
use lib.Ieee.Scale.{finite}
use lib.Pow.{pow-add}
use Rattle.laws.proofs.BoolLaws.{and_left, and_right}
use Rattle.laws.specs.Bytes.{Bytes}
use Rattle.numeral.proofs.TenLaws.{ten_pos, nearest_zero, nearest_sign}
use Rattle.numeral.specs.Numeral.{value, refusal, in_range, nearest, coefficient, up, down, well_formed, number_of, numeral_of}
use Rattle.numeral_parts.specs.Parts.{negative}
use Rattle.numeral_parts.specs.Saturated.{limit}

-- what lies between two finite values is finite
between : (a x b : Float) → T (finite a) → T (finite b) → T (le a x) → T (le x b) → T (finite x)
unfolding le lt eq
between nan x b ha hb l h = absurd ha
between (inf s) x b ha hb l h = absurd ha
between (fin s m e) x nan ha hb l h = absurd hb
between (fin s m e) x (inf t) ha hb l h = absurd hb
between (fin s m e) nan (fin t n d) ha hb l h = absurd h
between (fin s m e) (inf true) (fin t n d) ha hb l h = absurd l
between (fin s m e) (inf false) (fin t n d) ha hb l h = absurd h
between (fin s m e) (fin u k g) (fin t n d) ha hb l h = tt

-- the largest magnitude is a double
top_finite : T (finite (round binary64 false (10 ^ 37) 1))
unfolding round
top_finite = tt

zero_finite : T (finite (round binary64 false 0 1))
unfolding round
zero_finite = tt

neg_finite : (x : Float) → T (finite x) → T (finite (neg x))
unfolding neg
neg_finite nan h = h
neg_finite (inf s) h = h
neg_finite (fin s m e) h = tt

signed_finite : (s : Bool) (x : Float) → T (finite x) → T (finite (cond s (neg x) x))
signed_finite true x h = neg_finite x h
signed_finite false x h = h

module _ (c u d : ℕ) (h : c < limit) where
  fraction_bound : u ≤ d + 22 → c * 10 ^ u * 1 ≤ 10 ^ 37 * 10 ^ d
  fraction_bound l =
      let p : 10 ^ u ≤ 10 ^ d * 10 ^ 22 = le_trans (pow-le-pow_right {n = 10} (omega arith) l) (le_of_eq (pow-add 10 d 22)) in
      let q : c * 10 ^ u ≤ 10 ^ 15 * (10 ^ d * 10 ^ 22) = mul-le-mul (omega arith) p in
      omega arith

  magnitude_finite : u ≤ d + 22 → T (finite (nearest false c u d))
  unfolding nearest
  magnitude_finite l =
      between (round binary64 false 0 1) (round binary64 false (c * 10 ^ u) (10 ^ d)) (round binary64 false (10 ^ 37) 1) zero_finite top_finite
      (round_mono binary64 0 1 (c * 10 ^ u) (10 ^ d) (omega arith) (ten_pos d) (omega arith))
      (round_mono binary64 (c * 10 ^ u) (10 ^ d) (10 ^ 37) 1 (ten_pos d) (omega arith) (fraction_bound l))

-- a coefficient in range is 0 or has a power of at most 22
range_power : (c u d : ℕ) → in_range c u d ≡ true → (c ≡ 0) ⊎ (u ≤ d + 22)
unfolding in_range
range_power c u d r = go (eqb c 0) refl (and_right (ltb c (10 ^ 15)) (eqb c 0 || leb u (d + 22) && leb d (u + 22)) r)
  where
    go : (b : Bool) → eqb c 0 ≡ b → (b || leb u (d + 22) && leb d (u + 22)) ≡ true → (c ≡ 0) ⊎ (u ≤ d + 22)
    go true e q = inl (eqb-true c 0 e)
    go false e q = inr (leb-true u (d + 22) (and_left (leb u (d + 22)) (leb d (u + 22)) q))

nearest_finite : (s : Bool) (c u d : ℕ) → in_range c u d ≡ true → T (finite (nearest s c u d))
unfolding in_range
nearest_finite s c u d r =
    subst (λ (x : Float). T (finite x)) (nearest_sign s c u d) (signed_finite s (nearest false c u d)
    (⊎_elim
    (λ z. subst (λ (x : Float). T (finite x)) (sym (ap (λ (k : ℕ). nearest false k u d) z ∙ nearest_zero false u d)) tt)
    (magnitude_finite c u d (ltb-true c limit (and_left (ltb c (10 ^ 15)) (eqb c 0 || leb u (d + 22) && leb d (u + 22)) r)))
    (range_power c u d r)))

pub numeral_finite : (w : Bytes) (x : Float) → value x ≡ numeral_of w → T (finite x)
unfolding numeral_of number_of
numeral_finite w x = go (well_formed w) (in_range (coefficient w) (up w) (down w)) (nearest_finite (negative w) (coefficient w) (up w) (down w))
  where
    v : Float
    v = nearest (negative w) (coefficient w) (up w) (down w)

    go : (a b : Bool) → (b ≡ true → T (finite v)) → value x ≡ cond a (cond b (value v) (refusal 15)) (refusal 14) → T (finite x)
    go true true f e = let q : v ≡ x = cc in subst (λ (y : Float). T (finite y)) q (f refl)
    go true false f e = let z : ◌≡◌ {A = ℕ} 0 1 = cc in absurd (omega arith)
    go false b f e = let z : ◌≡◌ {A = ℕ} 0 1 = cc in absurd (omega arith)

pub numeral_no_nan : (w : Bytes) (x : Float) → value x ≡ numeral_of w → T (not (is_nan x))
numeral_no_nan w x e = go x (numeral_finite w x e)
  where
    go : (x : Float) → T (finite x) → T (not (is_nan x))
    go nan h = absurd h
    go (inf s) h = absurd h
    go (fin s m e) h = unfold is_nan in tt
