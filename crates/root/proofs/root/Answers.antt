-- `root::root` meets its contract.
use mathlib.Core.Bool.{Bool, true, false, true≢false, false≢true}
use mathlib.Core.Path.{◌≡◌, refl, sym, ◌∙◌, subst}
use Prim.Native.Nat.{ℕ, zero, suc, ◌*◌, ◌<◌}
use native.Mathlib.Nat.{mul-pos, zero-lt-suc, zero-mul}
use native.Mathlib.Omega.{arith}
use borrow.Author.Tests.{lt-ltb, ltb-true}
use lib.Dec.{T, eqb, eqb→eq, lt→ltb}
use lib.Ieee.{Float, nan, inf, fin, up, down, level, lt, eq, div, of_bits}
use lib.Ieee.Fits.{up_pos, and_l}
use lib.Ieee.Positive.{positive}
use lib.IntN.{ℤ}
use Rattle.steps.specs.Step.{+0}
use Rattle.root.specs.Root.{root_of}
use Rattle.root.proofs.root.Goals as goal

some : (m : ℕ) (e : ℤ) → 0 < suc m * up e
some m e = mul-pos (zero-lt-suc m) (up_pos e)

at_zero : (x : Float) → eq x +0 ≡ true → +0 ≡ root_of x
unfolding eq root_of
at_zero nan h = absurd (false≢true h)
at_zero (inf s) h = absurd (false≢true h)
at_zero (fin s zero e) h = refl
at_zero (fin s (suc m) e) h =
    let a = suc m * up e * 1 in
    let b = 0 * 1 * down e in
    let z : a ≡ b = eqb→eq a b (and_l (eqb a b) _ (subst T (sym h) tt)) in
    absurd (omega (arith, some m e))

above : (x : Float) → lt +0 x ≡ true → lt x (inf false) ≡ true → T (positive x)
unfolding lt
above nan h k = absurd (false≢true h)
above (inf true) h k = absurd (false≢true h)
above (inf false) h k = absurd (false≢true k)
above (fin true m e) h k = absurd (false≢true h)
above (fin false zero e) h k =
    let z = ltb-true (0 * 1 * down e) (zero * up e * 1) h in
    absurd (omega arith)
above (fin false (suc m) e) h k = lt→ltb 0 (suc m) (zero-lt-suc m)

zero_is : (s : Bool) (e : ℤ) → eq (fin s zero e) +0 ≡ true
unfolding eq
zero_is s e =
    let a : zero * up e * 1 ≡ 0 = omega arith in
    (λ i. level s (a i) false (zero-mul (down e) i)) ∙ both s
  where
    both : (s : Bool) → level s 0 false 0 ≡ true
    both true = refl
    both false = refl

not_above : (x : Float) → eq x +0 ≡ false → lt +0 x ≡ false → nan ≡ root_of x
unfolding lt eq root_of
not_above nan h k = refl
not_above (inf s) h k = refl
not_above (fin s zero e) h k = absurd (true≢false (sym (zero_is s e) ∙ h))
not_above (fin true (suc m) e) h k = refl
not_above (fin false (suc m) e) h k = absurd (true≢false (sym (lt-ltb (0 * 1 * down e) (suc m * up e * 1) (omega (arith, some m e))) ∙ k))

not-below : (x : Float) → lt x (inf false) ≡ false → nan ≡ root_of x
unfolding lt root_of
not-below nan h = refl
not-below (inf s) h = refl
not-below (fin s m e) h = absurd (true≢false h)

pub returns-then-x : goal.returns-then-x
unfolding of_bits
returns-then-x c = at_zero _ c.if-x.true

pub returns-then-not-x : goal.returns-then-not-x
unfolding of_bits div
returns-then-not-x c = not_above _ c.if-x.false c.if-not-x.true

pub returns-then-not-x-2 : goal.returns-then-not-x-2
unfolding of_bits div
returns-then-not-x-2 c = not-below _ c.if-not-x-2.true

pub root_above-requires : goal.root_above-requires
unfolding of_bits div
root_above-requires c = above _ c.if-not-x.false c.if-not-x-2.false
