-- A step that is finite has finite operands, and what is not finite stays so: one test at the end of a chain is enough.
use mathlib.Core.Bool.{Bool, true, false, cond}
use mathlib.Core.Path.{◌≡◌, refl, sym, ap, ◌∙◌, subst}
use Prim.Native.Nat.{ℕ, zero, suc, ◌*◌, ◌<◌}
use native.Mathlib.Nat.{mul-pos, zero-lt-suc, lt_irrefl}
use lib.Dec.{T, eqb}
use lib.Ieee.{Float, nan, inf, fin, Format, unlike, up, neg, add, sub, mul, div}
use lib.Ieee.Fits.{up_pos}
use lib.Ieee.Positive.{num}
use lib.Ieee.Scale.{finite}
use lib.IntN.{ℤ}
use Rattle.std.specs.Float.{float_is_finite}
use Rattle.steps.specs.Step.{step}

-- std's word for a finite float is that of the definitions
pub finite_is : (x : Float) → float_is_finite x ≡ finite x
unfolding float_is_finite
finite_is nan = refl
finite_is (inf s) = refl
finite_is (fin s m p) = refl

-- ---- a step that is finite
pub step_finite : (x : Float) → T (finite (step x)) → (step x ≡ x) × T (finite x)
unfolding step
step_finite x = go (finite x)
  where
    go : (b : Bool) → T (finite (cond b x nan)) → (cond b x nan ≡ x) × T b
    go true h = (refl, tt)
    go false h = absurd h

pub add_finite : (f : Format) (x y : Float) → T (finite (add f x y)) → T (finite x) × T (finite y)
unfolding add
add_finite f nan y h = absurd h
add_finite f (inf s) nan h = absurd h
add_finite f (inf true) (inf true) h = absurd h
add_finite f (inf true) (inf false) h = absurd h
add_finite f (inf false) (inf true) h = absurd h
add_finite f (inf false) (inf false) h = absurd h
add_finite f (inf s) (fin t n d) h = absurd h
add_finite f (fin s m e) nan h = absurd h
add_finite f (fin s m e) (inf t) h = absurd h
add_finite f (fin s m e) (fin t n d) h = (tt, tt)

neg_finite : (x : Float) → T (finite (neg x)) → T (finite x)
unfolding neg
neg_finite nan h = h
neg_finite (inf s) h = h
neg_finite (fin s m e) h = h

sub_finite : (f : Format) (x y : Float) → T (finite (sub f x y)) → T (finite x) × T (finite y)
unfolding sub
sub_finite f x y h = ((add_finite f x (neg y) h).0, neg_finite y (add_finite f x (neg y) h).1)

edge : (b s : Bool) → T (finite (cond b nan (inf s))) → ⊥
edge true s h = h
edge false s h = h

pub mul_finite : (f : Format) (x y : Float) → T (finite (mul f x y)) → T (finite x) × T (finite y)
unfolding mul
mul_finite f nan y h = absurd h
mul_finite f (inf s) nan h = absurd h
mul_finite f (inf s) (inf t) h = absurd h
mul_finite f (inf s) (fin t n d) h = absurd (edge (eqb n 0) (unlike s t) h)
mul_finite f (fin s m e) nan h = absurd h
mul_finite f (fin s m e) (inf t) h = absurd (edge (eqb m 0) (unlike s t) h)
mul_finite f (fin s m e) (fin t n d) h = (tt, tt)

-- ---- a step of a step that failed, and of what it would have been
stopped : (z : Float) → (T (finite z) → ⊥) → step z ≡ nan
unfolding step
stopped z h = go (finite z) h
  where
    go : (b : Bool) → (T b → ⊥) → cond b z nan ≡ nan
    go true h = absurd (h tt)
    go false h = refl

absorb : (g : Float → Float) → g nan ≡ nan → ((x : Float) → T (finite (g x)) → T (finite x)) → (x : Float) → step (g (step x)) ≡ step (g x)
unfolding step
absorb g n h x = go (finite x) (h x)
  where
    go : (b : Bool) → (T (finite (g x)) → T b) → step (g (cond b x nan)) ≡ step (g x)
    go true k = refl
    go false k = ap step n ∙ sym (stopped (g x) k)

add_nan : (f : Format) (x : Float) → add f x nan ≡ nan
unfolding add
add_nan f nan = refl
add_nan f (inf s) = refl
add_nan f (fin s m e) = refl

sub_nan : (f : Format) (x : Float) → sub f x nan ≡ nan
unfolding sub neg
sub_nan f x = add_nan f x

pub add_l : (f : Format) (x y : Float) → step (add f (step x) y) ≡ step (add f x y)
add_l f x y = absorb (λ (z : Float). add f z y) (unfold add in refl) (λ z h. (add_finite f z y h).0) x

pub add_r : (f : Format) (x y : Float) → step (add f x (step y)) ≡ step (add f x y)
add_r f x y = absorb (add f x) (add_nan f x) (λ z h. (add_finite f x z h).1) y

pub sub_l : (f : Format) (x y : Float) → step (sub f (step x) y) ≡ step (sub f x y)
sub_l f x y = absorb (λ (z : Float). sub f z y) (unfold sub in refl) (λ z h. (sub_finite f z y h).0) x

pub sub_r : (f : Format) (x y : Float) → step (sub f x (step y)) ≡ step (sub f x y)
sub_r f x y = absorb (sub f x) (sub_nan f x) (λ z h. (sub_finite f x z h).1) y

div_first : (f : Format) (y z : Float) → T (finite (div f z y)) → T (finite z)
unfolding div
div_first f y nan h = h
div_first f nan (inf s) h = h
div_first f (inf t) (inf s) h = h
div_first f (fin t n d) (inf s) h = h
div_first f y (fin s m e) h = tt

pub div_l : (f : Format) (x y : Float) → step (div f (step x) y) ≡ step (div f x y)
div_l f x y = absorb (λ (z : Float). div f z y) (unfold div in refl) (div_first f y) x

-- ---- a quotient by a step
div_nan : (f : Format) (x : Float) → T (finite (div f x nan)) → ⊥
unfolding div
div_nan f nan h = h
div_nan f (inf s) h = h
div_nan f (fin s m e) h = h

div_fin : (f : Format) (x : Float) (t : Bool) (n : ℕ) (d : ℤ) → T (finite (div f x (fin t n d))) → T (finite x) × (n * up d ≡ 0 → ⊥)
unfolding div
div_fin f nan t n d h = absurd h
div_fin f (inf s) t n d h = absurd h
div_fin f (fin s m e) t zero d h = absurd (edge (eqb m 0) (unlike s t) h)
div_fin f (fin s m e) t (suc n) d h = (tt, λ z. lt_irrefl 0 (subst (λ (k : ℕ). 0 < k) z (mul-pos (zero-lt-suc n) (up_pos d))))

pub div_finite : (f : Format) (x y : Float) → T (finite (div f x (step y))) → T (finite x) × T (finite (step y)) × (num (step y) ≡ 0 → ⊥)
unfolding step
div_finite f x nan h = absurd (div_nan f x h)
div_finite f x (inf s) h = absurd (div_nan f x h)
div_finite f x (fin t n d) h = ((div_fin f x t n d h).0, tt, (div_fin f x t n d h).1)
