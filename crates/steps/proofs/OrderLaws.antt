-- Doubles in order, NaN and infinities among them: a double that is at most another is below what that one is below.
use mathlib.Core.Bool.{Bool, true, false, not, ◌&&◌, ◌||◌, beq, false≢true}
use mathlib.Core.Path.{◌≡◌, refl, sym, ◌∙◌, subst}
use Prim.Native.Nat.{ℕ, zero, suc, ◌+◌, ◌*◌, ◌≤◌, ◌<◌}
use native.Mathlib.Nat.{le_of_eq, lt_of_le_of_lt, lt_of_lt_of_le, le_trans, lt_of_mul-lt-mul_right, mul-lt-mul_of_pos_right, mul-le-mul_right, mul-pos, mul_right_comm, zero-lt-suc}
use native.Mathlib.Omega.{arith}
use borrow.Author.Tests.{eqb-true, lt-ltb, ltb-true}
use lib.Dec.{eqb, ltb}
use lib.Ieee.{Float, nan, inf, fin, below, level, down, eq, le, lt, up}
use lib.Ieee.Fits.{down_pos}
use Rattle.steps.specs.Step.{+0}

-- ---- ±a ≤ ±b and ±a < ±b

abbrev AtMost : Bool → ℕ → Bool → ℕ → Type 0
AtMost false a false b = a ≤ b
AtMost false a true b = (a ≡ 0) × (b ≡ 0)
AtMost true a false b = Unit
AtMost true a true b = b ≤ a

abbrev Below : Bool → ℕ → Bool → ℕ → Type 0
Below false a false b = a < b
Below false a true b = ⊥
Below true a false b = 0 < a + b
Below true a true b = b < a

below_of : (s : Bool) (a : ℕ) (t : Bool) (b : ℕ) → below s a t b ≡ true → Below s a t b
below_of false a false b h = ltb-true a b h
below_of false a true b h = false≢true h
below_of true a false b h = ltb-true 0 (a + b) h
below_of true a true b h = ltb-true b a h

of_below : (s : Bool) (a : ℕ) (t : Bool) (b : ℕ) → Below s a t b → below s a t b ≡ true
of_below false a false b h = lt-ltb a b h
of_below false a true b h = absurd h
of_below true a false b h = lt-ltb 0 (a + b) h
of_below true a true b h = lt-ltb b a h

-- from "below, or equal and one thing more"
or_equal : (a b : ℕ) (x y z : Bool) → (x ≡ true → a < b) → (y ≡ true → a ≡ b) → (x || (y && z)) ≡ true → a ≤ b
or_equal a b true y z f g h = let l = f refl in omega arith
or_equal a b false true z f g h = let e = g refl in omega arith
or_equal a b false false z f g h = absurd (false≢true h)

both_zero : (a b : ℕ) (x y : Bool) → (x ≡ true → a ≡ b) → (y ≡ true → a ≡ 0) → (x && y) ≡ true → (a ≡ 0) × (b ≡ 0)
both_zero a b true true f g h = (g refl, sym (f refl) ∙ g refl)
both_zero a b true false f g h = absurd (false≢true h)
both_zero a b false y f g h = absurd (false≢true h)

at_most_of : (s : Bool) (a : ℕ) (t : Bool) (b : ℕ) → (below s a t b || level s a t b) ≡ true → AtMost s a t b
at_most_of false a false b h = or_equal a b (ltb a b) (eqb a b) true (ltb-true a b) (eqb-true a b) h
at_most_of false a true b h = both_zero a b (eqb a b) (eqb a 0) (eqb-true a b) (eqb-true a 0) h
at_most_of true a false b h = tt
at_most_of true a true b h = or_equal b a (ltb b a) (eqb a b) true (ltb-true b a) (λ e. sym (eqb-true a b e)) h

-- ---- three fractions: x / p, y / q and z / r

below_on : (x y z p q r : ℕ) → 0 < p → x * q ≤ y * p → y * r < z * q → x * r < z * p
below_on x y z p q r P h k =
    lt_of_mul-lt-mul_right q
    (lt_of_le_of_lt (le_trans (le_of_eq (mul_right_comm x r q)) (le_trans (mul-le-mul_right r h) (le_of_eq (mul_right_comm y p r))))
    (lt_of_lt_of_le (mul-lt-mul_of_pos_right k P) (le_of_eq (mul_right_comm z q p))))

above_on : (x y z p q r : ℕ) → 0 < p → y * p ≤ x * q → z * q < y * r → z * p < x * r
above_on x y z p q r P h k =
    lt_of_mul-lt-mul_right q
    (lt_of_le_of_lt (le_of_eq (mul_right_comm z p q))
    (lt_of_lt_of_le (mul-lt-mul_of_pos_right k P)
    (le_trans (le_of_eq (mul_right_comm y r p)) (le_trans (mul-le-mul_right r h) (le_of_eq (mul_right_comm x q r))))))

first_pos : (x q : ℕ) → 0 < x * q → 0 < x
first_pos zero q h = absurd (omega arith)
first_pos (suc x) q h = omega arith

first_zero : (x q : ℕ) → 0 < q → x * q ≡ 0 → x ≡ 0
first_zero zero q Q h = refl
first_zero (suc x) q Q h = absurd (let l = mul-pos (zero-lt-suc x) Q in omega arith)

-- x / p ≤ y / q < z / r, whatever their signs
signed_on : (s : Bool) (x p : ℕ) (t : Bool) (y q : ℕ) (u : Bool) (z r : ℕ) → 0 < p → 0 < q → 0 < r → AtMost s (x * q) t (y * p) → Below t (y * r) u (z * q) → Below s (x * r) u (z * p)
signed_on false x p false y q false z r P Q R h k = below_on x y z p q r P h k
signed_on s x p false y q true z r P Q R h k = absurd k
signed_on false x p true y q false z r P Q R h k =
    let ex : x ≡ 0 = first_zero x q Q h.0 in
    let ey : y ≡ 0 = first_zero y p P h.1 in
    let l : 0 < z = first_pos z q (let w : 0 < 0 * r + z * q = subst (λ (n : ℕ). 0 < n * r + z * q) ey k in omega arith) in
    subst (λ (n : ℕ). n * r < z * p) (sym ex) (let w = mul-pos l P in omega arith)
signed_on false x p true y q true z r P Q R h k = absurd (let ey : y ≡ 0 = first_zero y p P h.1 in let l : z * q < 0 * r = subst (λ (n : ℕ). z * q < n * r) ey k in omega arith)
signed_on true x p false y q false z r P Q R h k = let l = mul-pos (first_pos z q (omega (arith, k))) P in omega arith
signed_on true x p true y q false zero r P Q R h k = let w = mul-pos (first_pos x q (let v = mul-pos (first_pos y r (omega (arith, k))) P in omega arith)) R in omega arith
signed_on true x p true y q false (suc z) r P Q R h k = let w = mul-pos (zero-lt-suc z) P in omega arith
signed_on true x p true y q true z r P Q R h k = above_on x y z p q r P h k

-- ---- infinities, by their signs

both : (s t : Bool) → s ≡ true → t ≡ true → (s && t) ≡ true
both s t h k = (λ i. h i && t) ∙ k

right : (s t : Bool) → (s && t) ≡ true → t ≡ true
right true t h = h
right false t h = absurd (false≢true h)

left : (s t : Bool) → (s && t) ≡ true → s ≡ true
left true t h = refl
left false t h = absurd (false≢true h)

alone : (s : Bool) → (s || false) ≡ true → s ≡ true
alone true h = refl
alone false h = absurd (false≢true h)

signs : (s t : Bool) → (s && not t || beq s t) ≡ true → t ≡ true → s ≡ true
signs true t h k = refl
signs false true h k = absurd (false≢true h)
signs false false h k = absurd (false≢true k)

not_not : (t : Bool) → not t ≡ true → t ≡ true → ⊥
not_not true h k = false≢true h
not_not false h k = false≢true k

-- ---- doubles

pub le_lt : (x y z : Float) → le x y ≡ true → lt y z ≡ true → lt x z ≡ true
unfolding le lt eq
le_lt nan y z h k = absurd (false≢true h)
le_lt (inf s) nan z h k = absurd (false≢true k)
le_lt (inf s) (inf t) nan h k = absurd (false≢true k)
le_lt (inf s) (inf t) (inf u) h k = both s (not u) (signs s t h (left t (not u) k)) (right t (not u) k)
le_lt (inf s) (inf t) (fin u c g) h k = signs s t h k
le_lt (inf s) (fin t n d) nan h k = absurd (false≢true k)
le_lt (inf s) (fin t n d) (inf u) h k = both s (not u) (alone s h) k
le_lt (inf s) (fin t n d) (fin u c g) h k = alone s h
le_lt (fin s m e) nan z h k = absurd (false≢true k)
le_lt (fin s m e) (inf t) nan h k = absurd (false≢true k)
le_lt (fin s m e) (inf t) (inf u) h k = right t (not u) k
le_lt (fin s m e) (inf t) (fin u c g) h k = absurd (not_not t (alone (not t) h) k)
le_lt (fin s m e) (fin t n d) nan h k = absurd (false≢true k)
le_lt (fin s m e) (fin t n d) (inf u) h k = k
le_lt (fin s m e) (fin t n d) (fin u c g) h k =
    of_below s (m * up e * down g) u (c * up g * down e)
    (signed_on s (m * up e) (down e) t (n * up d) (down d) u (c * up g) (down g) (down_pos e) (down_pos d) (down_pos g)
    (at_most_of s (m * up e * down d) t (n * up d * down e) h)
    (below_of t (n * up d * down g) u (c * up g * down d) k))

-- ---- doubles that are not below 0

at_least : (t : Bool) (a b : ℕ) → a ≡ 0 → (t ≡ true → b ≡ 0) → (below false a t b || level false a t b) ≡ true
at_least false a zero e f = rw e
at_least false a (suc b) e f = rw (e, lt-ltb 0 (suc b) (omega arith))
at_least true a b e f = rw (e, f refl)

-- 0 ≤ x / p ≤ y / q
none_below : (s : Bool) (x p : ℕ) (y q : ℕ) → 0 < p → (s ≡ true → x ≡ 0) → AtMost s (x * q) true (y * p) → y ≡ 0
none_below false x p y q P f h = first_zero y p P h.1
none_below true x p y q P f h = first_zero y p P (let e : x * q ≡ 0 = subst (λ (n : ℕ). n * q ≡ 0) (sym (f refl)) (omega arith) in omega arith)

-- what is at least a double that is not below 0 is not below 0
pub zero_le : (x y : Float) → le +0 x ≡ true → le x y ≡ true → le +0 y ≡ true
unfolding le lt eq
zero_le nan y h k = absurd (false≢true k)
zero_le (inf s) nan h k = absurd (false≢true k)
zero_le (inf s) (inf t) h k = go s t h k
  where
    go : (s t : Bool) → (not s || false) ≡ true → (s && not t || beq s t) ≡ true → (not t || false) ≡ true
    go true t h k = absurd (false≢true h)
    go false true h k = absurd (false≢true k)
    go false false h k = refl
zero_le (inf s) (fin t n d) h k = absurd (not_not s (alone (not s) h) (alone s k))
zero_le (fin s m e) nan h k = absurd (false≢true k)
zero_le (fin s m e) (inf t) h k = k
zero_le (fin s m e) (fin t n d) h k = at_least t (0 * down d) (n * up d * 1) (omega arith) (go t (at_most_of s (m * up e * down d) t (n * up d * down e) k))
  where
    nonneg : s ≡ true → m * up e ≡ 0
    nonneg q = let a = subst (λ (b : Bool). AtMost false (0 * down e) b (m * up e * 1)) q (at_most_of false (0 * down e) s (m * up e * 1) h) in omega (arith, a.1)

    go : (t : Bool) → AtMost s (m * up e * down d) t (n * up d * down e) → t ≡ true → n * up d * 1 ≡ 0
    go true a q = let z = none_below s (m * up e) (down e) (n * up d) (down d) (down_pos e) nonneg a in omega arith
    go false a q = absurd (false≢true q)
