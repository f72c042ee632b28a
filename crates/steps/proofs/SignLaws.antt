-- Values that are not below zero stay so through products and quotients.
use mathlib.Core.Bool.{Bool, true, false, cond}
use mathlib.Core.Path.{◌≡◌, refl, sym, ap, ◌∙◌, subst}
use Prim.Native.Nat.{ℕ, zero, suc, ◌*◌, ◌<◌}
use native.Mathlib.Nat.{zero-mul, mul-zero, mul-pos, zero-lt-suc, lt_irrefl}
use lib.Dec.{T, eqb, eqb→eq}
use lib.Ieee.{Float, nan, inf, fin, Format, unlike, up, down, round, mul, lt, le}
use lib.Ieee.Fits.{up_pos, down_pos, and_l}
use lib.Ieee.Scale.{finite}
use lib.IntN.{ℤ}
use Rattle.steps.specs.Step.{step, +0}
use Rattle.steps.proofs.DoubleLaws.{signed, signed_round, round_zero}

-- a -0 is among them; a NaN and an infinity pass
abbrev pub NonNeg : Float → Type 0
NonNeg nan = Unit
NonNeg (inf s) = Unit
NonNeg (fin true m e) = m ≡ 0
NonNeg (fin false m e) = Unit

-- the size of a value, as a value
abbrev pub abs : Float → Float
abs = signed (λ s. false)

nonneg_abs : (x : Float) → NonNeg (abs x)
nonneg_abs nan = tt
nonneg_abs (inf s) = tt
nonneg_abs (fin s m e) = tt

pub nonneg_round : (f : Format) (s : Bool) (a c : ℕ) → 0 < c → (T s → a ≡ 0) → NonNeg (round f s a c)
nonneg_round f false a c C h = subst NonNeg (signed_round (λ s. false) f false a c) (nonneg_abs (round f false a c))
nonneg_round f true a c C h = subst (λ (n : ℕ). NonNeg (round f true n c)) (sym (h tt)) (subst NonNeg (sym (round_zero f true c C)) refl)

pub nonneg_step : (x : Float) → NonNeg x → NonNeg (step x)
unfolding step
nonneg_step x h = go (finite x)
  where
    go : (b : Bool) → NonNeg (cond b x nan)
    go true = h
    go false = tt

-- what a product with an infinity is
nonneg_edge : (b s : Bool) → NonNeg (cond b nan (inf s))
nonneg_edge true s = tt
nonneg_edge false s = tt

first_none : (m k : ℕ) → m ≡ 0 → m * k ≡ 0
first_none m k z = ap (λ (j : ℕ). j * k) z ∙ zero-mul k

pub nonneg_mul : (f : Format) (x y : Float) → NonNeg x → NonNeg y → NonNeg (mul f x y)
unfolding mul
nonneg_mul f nan y p q = tt
nonneg_mul f (inf s) nan p q = tt
nonneg_mul f (inf s) (inf t) p q = tt
nonneg_mul f (inf s) (fin t n d) p q = nonneg_edge (eqb n 0) (unlike s t)
nonneg_mul f (fin s m e) nan p q = tt
nonneg_mul f (fin s m e) (inf t) p q = nonneg_edge (eqb m 0) (unlike s t)
nonneg_mul f (fin s m e) (fin t n d) p q = nonneg_round f (unlike s t) (m * up e * (n * up d)) (down e * down d) (mul-pos (down_pos e) (down_pos d)) (go s t p q)
  where
    go : (s t : Bool) → NonNeg (fin s m e) → NonNeg (fin t n d) → T (unlike s t) → m * up e * (n * up d) ≡ 0
    go true true p q u = absurd u
    go false false p q u = absurd u
    go true false p q u = first_none (m * up e) (n * up d) (first_none m (up e) p)
    go false true p q u = ap (λ (k : ℕ). m * up e * k) (first_none n (up d) q) ∙ mul-zero (m * up e)

-- ---- by the order of values
no_sign : (m : ℕ) (e : ℤ) → T (le +0 (fin true m e)) → m ≡ 0
unfolding le
no_sign zero e h = refl
no_sign (suc m) e h =
    let z : 0 ≡ suc m * up e * 1 = sym (zero-mul (down e)) ∙ eqb→eq (0 * 1 * down e) (suc m * up e * 1) (and_l (eqb (0 * 1 * down e) (suc m * up e * 1)) (eqb (0 * 1 * down e) 0) h) in
    absurd (lt_irrefl 0 (subst (λ (k : ℕ). 0 < k) (sym z) (mul-pos (mul-pos (zero-lt-suc m) (up_pos e)) (zero-lt-suc 0))))

pub nonneg_le : (x : Float) → T (le +0 x) → NonNeg x
nonneg_le nan h = tt
nonneg_le (inf s) h = tt
nonneg_le (fin true m e) h = no_sign m e h
nonneg_le (fin false m e) h = tt

pub nonneg_lt : (x : Float) → T (lt +0 x) → NonNeg x
unfolding lt
nonneg_lt nan h = tt
nonneg_lt (inf s) h = tt
nonneg_lt (fin true m e) h = absurd h
nonneg_lt (fin false m e) h = tt
