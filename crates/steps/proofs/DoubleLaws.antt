-- Laws of doubles: each operation on two finite values, by any fractions that they equal; a change of sign; zero.
use mathlib.Core.Bool.{Bool, true, false, not, cond}
use mathlib.Core.Path.{◌≡◌, refl, sym, ap, ap₂, ◌∙◌, subst}
use Prim.Native.Nat.{ℕ, zero, suc, ◌+◌, ◌*◌, ◌^◌, ◌<◌}
use native.Mathlib.Nat.{zero-mul, mul_comm, mul-pos, mul-mul-mul_comm, lt_irrefl, zero-lt-suc}
use borrow.Author.Tests.{ne_eqb}
use lib.Dec.{ltb, eqb}
use lib.Ieee.{Float, nan, inf, fin, Format, binary32, binary64, prec, emax, low, unlike, up, down, odd, units, round, neg, mul, div}
use lib.Ieee.Exact.{HasValue}
use lib.Ieee.Fits.{up_pos, down_pos, round_is}
use lib.Ieee.Scale.{round_same}
use lib.IntN.{ℤ, pos}

-- ---- a value with another sign: g of its own
abbrev pub signed : (g : Bool → Bool) → Float → Float
signed g nan = nan
signed g (inf s) = inf (g s)
signed g (fin s m e) = fin (g s) m e

signed_odd : (g : Bool → Bool) (d : ℕ) (s : Bool) (q k l : ℕ) → signed g (odd d s q k l) ≡ odd d (g s) q k l
unfolding odd
signed_odd g d s zero k l = refl
signed_odd g d s (suc q) k l = refl

signed_units : (g : Bool → Bool) (f : Format) (s : Bool) (q k : ℕ) → signed g (units f s q k) ≡ units f (g s) q k
unfolding units
signed_units g f s q k = go (ltb (q * 2 ^ k) (2 ^ (low f + suc (emax f))))
  where
    go : (b : Bool) → signed g (cond b (odd (suc (prec f)) s q k (low f)) (inf s)) ≡ cond b (odd (suc (prec f)) (g s) q k (low f)) (inf (g s))
    go true = signed_odd g (suc (prec f)) s q k (low f)
    go false = refl

pub signed_round : (g : Bool → Bool) (f : Format) (s : Bool) (a c : ℕ) → signed g (round f s a c) ≡ round f (g s) a c
signed_round g f s a c = ap (signed g) (round_is f s a c) ∙ signed_units g f s _ _ ∙ sym (round_is f (g s) a c)

neg_signed : (x : Float) → neg x ≡ signed not x
unfolding neg
neg_signed nan = refl
neg_signed (inf s) = refl
neg_signed (fin s m e) = refl

pub neg_round : (f : Format) (s : Bool) (a c : ℕ) → neg (round f s a c) ≡ round f (not s) a c
neg_round f s a c = neg_signed (round f s a c) ∙ signed_round not f s a c

-- ---- nothing rounds to a zero of its sign
zero_is : (f : Format) (s : Bool) → round f s 0 1 ≡ fin s 0 (pos 0)
unfolding round
zero_is binary32 s = refl
zero_is binary64 s = refl

pub round_zero : (f : Format) (s : Bool) (c : ℕ) → 0 < c → round f s 0 c ≡ fin s 0 (pos 0)
round_zero f s c C = round_same f s 0 c 0 1 C (zero-lt-suc 0) (zero-mul 1 ∙ sym (zero-mul c)) ∙ zero_is f s

-- ---- a product
pub mul_val : (f : Format) (x y : Float) (s t : Bool) (a c b d : ℕ) → 0 < c → 0 < d → HasValue x s a c → HasValue y t b d → mul f x y ≡ round f (unlike s t) (a * b) (c * d)
unfolding mul
mul_val f nan y s t a c b d C D p q = elim p [ ]
mul_val f (inf _) y s t a c b d C D p q = elim p [ ]
mul_val f (fin u m e) nan s t a c b d C D p q = elim q [ ]
mul_val f (fin u m e) (inf _) s t a c b d C D p q = elim q [ ]
mul_val f (fin u m e) (fin v n g) s t a c b d C D p q =
    round_same f (unlike u v) (m * up e * (n * up g)) (down e * down g) (a * b) (c * d) (mul-pos (down_pos e) (down_pos g)) (mul-pos C D)
    (mul-mul-mul_comm (m * up e) (n * up g) c d ∙ ap₂ (λ (x y : ℕ). x * y) p.1 q.1 ∙ mul-mul-mul_comm a (down e) b (down g))
    ∙ (λ i. round f (unlike (p.0 i) (q.0 i)) (a * b) (c * d))

-- ---- a quotient
not_none : (m : ℕ) (e : ℤ) (b d : ℕ) → 0 < b → m * up e * d ≡ b * down e → m ≡ 0 → ⊥
not_none m e b d B h z = lt_irrefl 0 (subst (λ (x : ℕ). 0 < x) (sym h ∙ ap (λ (x : ℕ). x * up e * d) z ∙ ap (λ (x : ℕ). x * d) (zero-mul (up e)) ∙ zero-mul d) (mul-pos B (down_pos e)))

cross : (M N de dg a c b d : ℕ) → M * c ≡ a * de → N * d ≡ b * dg → M * dg * (c * b) ≡ a * d * (N * de)
cross M N de dg a c b d p q =
    mul-mul-mul_comm M dg c b
    ∙ ap₂ (λ (x y : ℕ). x * y) p (mul_comm dg b ∙ sym q)
    ∙ mul-mul-mul_comm a de N d
    ∙ ap (λ (x : ℕ). a * N * x) (mul_comm de d)
    ∙ sym (mul-mul-mul_comm a d N de)

pub div_val : (f : Format) (x y : Float) (s t : Bool) (a c b d : ℕ) → 0 < c → 0 < d → 0 < b → HasValue x s a c → HasValue y t b d → div f x y ≡ round f (unlike s t) (a * d) (c * b)
unfolding div
div_val f nan y s t a c b d C D B p q = elim p [ ]
div_val f (inf _) y s t a c b d C D B p q = elim p [ ]
div_val f (fin u m e) nan s t a c b d C D B p q = elim q [ ]
div_val f (fin u m e) (inf _) s t a c b d C D B p q = elim q [ ]
div_val f (fin u m e) (fin v n g) s t a c b d C D B p q =
    let r = round f (unlike u v) (m * up e * down g) (n * up g * down e) in
    let z = cond (eqb m 0) nan (inf (unlike u v)) in
    ap (λ (k : Bool). cond k z r) (ne_eqb n 0 (not_none n g b d B q.1))
    ∙ round_same f (unlike u v) (m * up e * down g) (n * up g * down e) (a * d) (c * b) (mul-pos (mul-pos (some n (not_none n g b d B q.1)) (up_pos g)) (down_pos e)) (mul-pos C B)
    (cross (m * up e) (n * up g) (down e) (down g) a c b d p.1 q.1)
    ∙ (λ i. round f (unlike (p.0 i) (q.0 i)) (a * d) (c * b))
  where
    some : (k : ℕ) → (k ≡ 0 → ⊥) → 0 < k
    some zero h = absurd (h refl)
    some (suc k) h = zero-lt-suc k
