-- Below the limit a rounding is finite and the nearest float, and from it on it is an infinity.
use mathlib.Core.Bool.{Bool, true, false, cond}
use mathlib.Core.Logic.{inl, inr}
use mathlib.Core.Path.{◌≡◌, refl, sym, ap, ◌∙◌, subst}
use Prim.Native.Nat.{ℕ, suc, ◌+◌, ◌-◌, ◌*◌, ◌%◌, ◌^◌, ◌≤◌, ◌<◌}
use native.Mathlib.Nat.{le_trans, le_of_eq, lt_of_lt_of_le, lt_of_not-le, not-le_of_lt, add-mul, pow-suc, mul_comm, mul_assoc, mul_left_comm, mul-le-mul_right, mul-lt-mul_of_pos_right, lt_of_mul-lt-mul_right, eq_of_mul-eq-mul_right, eq-or-lt_of_le, zero-lt-suc}
use native.Mathlib.Omega.{arith}
use lib.Dec.{T, ltb, ltb→lt, lit≤}
use lib.Ieee.{Float, inf, fin, Format, binary32, binary64, prec, emax, low, odd, units, round}
use lib.Ieee.Exact.{HasValue, units_val}
use lib.Ieee.Fits.{two, two-le_pos, round_is}
use lib.Ieee.Order.{drop, kept}
use lib.Ieee.Scale.{finite, grid, overflow}
use lib.Pow.{pow-add, pow_pos, pow_mono, pow-lt}
use Rattle.rounding.specs.Nearest.{limit, Nearest, Rounded}
use Rattle.rounding.proofs.ClosestLaws.{which, Best, twice, carry, Ties, kept_le, kept_ge, grid_best}
use Rattle.rounding.proofs.NearestLaws.{round_nearest, nearest_only}

-- ---- where a rounding is finite. The largest value is (2 ^ p - 1) * 2 ^ j, and 2 ^ p * 2 ^ j is the first that is too large
both : (p j c : ℕ) → (2 ^ suc p - 1) * 2 ^ j * c ≡ (2 ^ p - 1) * 2 ^ j * c + 2 ^ p * 2 ^ j * c
both p j c =
    let d : 2 ^ suc p ≡ 2 ^ p * 2 = pow-suc 2 p in
    let o : 0 < 2 ^ p = pow_pos p in
    let e : 2 ^ suc p - 1 ≡ 2 ^ p - 1 + 2 ^ p = omega arith in
    ap (λ (x : ℕ). x * 2 ^ j * c) e ∙ ap (λ (x : ℕ). x * c) (add-mul (2 ^ p - 1) (2 ^ p) (2 ^ j)) ∙ add-mul ((2 ^ p - 1) * 2 ^ j) (2 ^ p * 2 ^ j) c

-- below 2 ^ p * 2 ^ j a rounding is at most the largest value, and where it is that, its last digit is 1
short_of : (p q k j : ℕ) → 2 ≤ p → q ≤ 2 ^ p → (0 < k → 2 ^ (p - 1) ≤ q) → q * 2 ^ k < 2 ^ p * 2 ^ j
    → (q * 2 ^ k ≤ (2 ^ p - 1) * 2 ^ j) × (q * 2 ^ k ≡ (2 ^ p - 1) * 2 ^ j → q % 2 ≡ 0 → ⊥)
short_of p q k j h l g s =
    elim (which k j) [
      | inr m ↦
          let z : 0 < k = omega arith in
          let e : p + j ≤ p - 1 + k = omega arith in
          absurd (not-le_of_lt s (le_trans (le_of_eq (sym (pow-add 2 p j))) (le_trans (pow_mono e) (le_trans (le_of_eq (pow-add 2 (p - 1) k)) (mul-le-mul_right (2 ^ k) (g z))))))
      | inl m ↦ elim (eq-or-lt_of_le m) [ inl e ↦ level e | inr e ↦ under e ]
    ]
  where
    level : k ≡ j → (q * 2 ^ k ≤ (2 ^ p - 1) * 2 ^ j) × (q * 2 ^ k ≡ (2 ^ p - 1) * 2 ^ j → q % 2 ≡ 0 → ⊥)
    level e =
        let i : 2 ^ k ≡ 2 ^ j = ap (λ (i : ℕ). 2 ^ i) e in
        let small : q < 2 ^ p = lt_of_not-le (λ (b : 2 ^ p ≤ q). not-le_of_lt s (le_trans (mul-le-mul_right (2 ^ j) b) (le_of_eq (ap (λ (x : ℕ). q * x) (sym i))))) in
        let most : q ≤ 2 ^ p - 1 = omega arith in
        let d : 2 ^ p ≡ 2 ^ (p - 1) * 2 = twice p (two-le_pos p h) in (
          le_trans (le_of_eq (ap (λ (x : ℕ). q * x) i)) (mul-le-mul_right (2 ^ j) most),
          λ a v. let z : q ≡ 2 ^ p - 1 = eq_of_mul-eq-mul_right (2 ^ j) (pow_pos j) q (2 ^ p - 1) (ap (λ (x : ℕ). q * x) (sym i) ∙ a) in omega arith,
        )

    under : k < j → (q * 2 ^ k ≤ (2 ^ p - 1) * 2 ^ j) × (q * 2 ^ k ≡ (2 ^ p - 1) * 2 ^ j → q % 2 ≡ 0 → ⊥)
    under e =
        let i : p + k ≤ p - 1 + j = omega arith in
        let d : 2 ^ p ≡ 2 ^ (p - 1) * 2 = twice p (two-le_pos p h) in
        let w : 1 ≤ p - 1 = omega arith in
        let o : 2 ^ 1 ≤ 2 ^ (p - 1) = pow_mono w in
        let less : 2 ^ (p - 1) < 2 ^ p - 1 = omega arith in
        let a : q * 2 ^ k ≤ 2 ^ (p - 1) * 2 ^ j = le_trans (mul-le-mul_right (2 ^ k) l) (le_trans (le_of_eq (sym (pow-add 2 p k))) (le_trans (pow_mono i) (le_of_eq (pow-add 2 (p - 1) j)))) in
        let b : 2 ^ (p - 1) * 2 ^ j < (2 ^ p - 1) * 2 ^ j = mul-lt-mul_of_pos_right less (pow_pos j) in
        (omega arith, λ z v. omega arith)

past : {O : Type 0} (K X n A B : ℕ) → A + B ≤ n * 2 → X ≤ A → X < B → (X ≡ A → K % 2 ≡ 0 → ⊥) → Best ((K % 2 ≡ 0) × O) X n B → ⊥
past K X n A B h l s o b =
    let g = b.0 in
    elim (b.1 (omega arith)) [ inl e ↦ omega arith | inr e ↦ o (omega arith) e.0 ]

under_half : {E : Type 0} (X n A B : ℕ) → n * 2 < A + B → A < B → Best E X n A → X < B
under_half X n A B h l b = let g = b.0 in omega arith

module _ (p n c j : ℕ) (p2 : 2 ≤ p) (C : 0 < c) where
  P₂ : 0 < p
  P₂ = two-le_pos p p2

  abbrev X : ℕ
  X = kept p n c * 2 ^ drop p n c

  stays : n * 2 < (2 ^ suc p - 1) * 2 ^ j * c → X < 2 ^ p * 2 ^ j
  stays h =
      let o : 0 < 2 ^ p = pow_pos p in
      let l : 2 ^ p - 1 < 2 ^ p = omega arith in
      let z : X * c < 2 ^ p * 2 ^ j * c =
      under_half (X * c) n ((2 ^ p - 1) * 2 ^ j * c) (2 ^ p * 2 ^ j * c) (lt_of_lt_of_le h (le_of_eq (both p j c))) (mul-lt-mul_of_pos_right (mul-lt-mul_of_pos_right l (pow_pos j)) C) (grid_best p n c P₂ C (2 ^ p - 1) j l) in
      lt_of_mul-lt-mul_right c z

  leaves : (2 ^ suc p - 1) * 2 ^ j * c ≤ n * 2 → 2 ^ p * 2 ^ j ≤ X
  leaves h = elim (which (2 ^ p * 2 ^ j) X) [ inl g ↦ g | inr g ↦ absurd (clash g) ]
    where
      clash : X < 2 ^ p * 2 ^ j → ⊥
      clash g =
          let s = short_of p (kept p n c) (drop p n c) j p2 (kept_le p n c P₂ C) (kept_ge p n c P₂ C) g in
          past (kept p n c) (X * c) n ((2 ^ p - 1) * 2 ^ j * c) (2 ^ p * 2 ^ j * c) (le_trans (le_of_eq (sym (both p j c))) h) (mul-le-mul_right c s.0) (mul-lt-mul_of_pos_right g C)
          (λ e. s.1 (eq_of_mul-eq-mul_right c C X ((2 ^ p - 1) * 2 ^ j) e))
          (subst (λ (z : ℕ). Best (Ties p (kept p n c) z) (X * c) n (z * c)) (carry p j P₂) (grid_best p n c P₂ C (2 ^ (p - 1)) (suc j) (pow-lt (omega arith))))

reach : (f : Format) → prec f ≤ emax f
reach binary32 = lit≤ tt
reach binary64 = lit≤ tt

units_beyond : (f : Format) (s : Bool) (q k : ℕ) → overflow f ≤ q * 2 ^ k → units f s q k ≡ inf s
unfolding units
units_beyond f s q k h = go (ltb (q * 2 ^ k) (overflow f)) (ltb→lt (q * 2 ^ k) (overflow f))
  where
    go : (b : Bool) → (T b → q * 2 ^ k < overflow f) → cond b (odd (suc (prec f)) s q k (low f)) (inf s) ≡ inf s
    go true l = absurd (not-le_of_lt (l tt) h)
    go false l = refl

value_finite : (x : Float) (s : Bool) (a c : ℕ) → HasValue x s a c → T (finite x)
value_finite lib.Ieee.nan s a c h = elim h [ ]
value_finite (inf _) s a c h = elim h [ ]
value_finite (fin t m e) s a c h = tt

module _ (f : Format) (s : Bool) (a c : ℕ) (C : 0 < c) where
  abbrev J : ℕ
  J = low f + suc (emax f - prec f)

  top_is : 2 ^ prec f * 2 ^ J ≡ overflow f
  top_is =
      let r : prec f ≤ emax f = reach f in
      let e : prec f + J ≡ low f + suc (emax f) = sums (prec f) (emax f) (low f) r in
      sym (pow-add 2 (prec f) J) ∙ ap (λ (i : ℕ). 2 ^ i) e
    where
      sums : (p e l : ℕ) → p ≤ e → p + (l + suc (e - p)) ≡ l + suc e
      sums p e l h = omega arith

  limit_is : limit f * c * 2 ^ low f * 2 ≡ (2 ^ suc (prec f) - 1) * 2 ^ J * c
  limit_is = go (2 ^ suc (prec f) - 1) (emax f - prec f) (low f)
    where
      go : (m d l : ℕ) → m * 2 ^ d * c * 2 ^ l * 2 ≡ m * 2 ^ (l + suc d) * c
      go m d l =
          let e : 2 ^ (l + suc d) ≡ 2 ^ l * (2 ^ d * 2) = pow-add 2 l (suc d) ∙ ap (λ (x : ℕ). 2 ^ l * x) (pow-suc 2 d) in
          simp (mul_assoc, mul_comm, mul_left_comm) (sym (simp (mul_assoc, mul_comm, mul_left_comm) at (ap (λ (x : ℕ). m * x * c) e)))

  below_ok : a < limit f * c → Nearest f s a c (round f s a c)
  below_ok h =
      let n = a * 2 ^ low f in
      let l : n * 2 < limit f * c * 2 ^ low f * 2 = mul-lt-mul_of_pos_right (mul-lt-mul_of_pos_right h (pow_pos (low f))) (zero-lt-suc 1) in
      let g : grid f a c < overflow f = lt_of_lt_of_le (stays (prec f) n c J (two f) C (lt_of_lt_of_le l (le_of_eq limit_is))) (le_of_eq top_is) in
      round_nearest f s a c C
      (subst (λ (z : Float). T (finite z)) (sym (round_is f s a c)) (value_finite (units f s (kept (prec f) n c) (drop (prec f) n c)) s (grid f a c) (2 ^ low f) (units_val f s (kept (prec f) n c) (drop (prec f) n c) g)))

  beyond_ok : limit f * c ≤ a → round f s a c ≡ inf s
  beyond_ok h =
      let n = a * 2 ^ low f in
      let l : limit f * c * 2 ^ low f * 2 ≤ n * 2 = mul-le-mul_right 2 (mul-le-mul_right (2 ^ low f) h) in
      round_is f s a c ∙ units_beyond f s (kept (prec f) n c) (drop (prec f) n c) (le_trans (le_of_eq (sym top_is)) (leaves (prec f) n c J (two f) C (le_trans (le_of_eq (sym limit_is)) l)))

pub round_rounded : (f : Format) (s : Bool) (a c : ℕ) → 0 < c → Rounded f s a c (round f s a c)
round_rounded f s a c C = record { below = below_ok f s a c C; beyond = beyond_ok f s a c C }

-- and nothing else is
pub rounded_only : (f : Format) (s : Bool) (a c : ℕ) (x : Float) → 0 < c → Rounded f s a c x → x ≡ round f s a c
rounded_only f s a c x C R = elim (which (limit f * c) a) [ inl h ↦ R.beyond h ∙ sym (beyond_ok f s a c C h) | inr h ↦ nearest_only f s a c x C (below_ok f s a c C h).is_finite (R.below h) ]
