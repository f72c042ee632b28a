-- A byte's class says whether it is blank or good, and it is never both.
use mathlib.Core.Bool.{Bool, true, false, cond, not, ◌&&◌, ◌||◌}
use mathlib.Core.Path.{◌≡◌, refl, sym}
use Prim.Native.Nat.{ℕ, ◌≤◌}
use native.Mathlib.Omega.{arith}
use borrow.Author.Tests.{leb-true, eqb-true, lt-leb, eq-eqb, ne_eqb}
use lib.Dec.{leb, eqb}
use Rattle.lexer.specs.Class.{is_blank, is_good, is_in_line, class_of}

blank_low : (b : ℕ) → is_blank b ≡ true → b ≤ 32
unfolding is_blank
blank_low b e = go (leb 9 b) (leb b 13) refl (eqb b 32) refl e
  where
    go : (p q : Bool) → leb b 13 ≡ q → (r : Bool) → eqb b 32 ≡ r → (p && q || r) ≡ true → b ≤ 32
    go true true h r k e = omega (arith, leb-true b 13 h)
    go true false h true k e = omega (arith, eqb-true b 32 k)
    go true false h false k e = absurd (mathlib.Core.Bool.false≢true e)
    go false q h true k e = omega (arith, eqb-true b 32 k)
    go false q h false k e = absurd (mathlib.Core.Bool.false≢true e)

pub blank_not_good : (b : ℕ) → is_blank b ≡ true → is_good b ≡ false
unfolding is_good
blank_not_good b e = let h = blank_low b e in rw (lt-leb 33 b (omega arith))

pub class_blank : (b : ℕ) → eqb (class_of b) 0 ≡ is_blank b
unfolding class_of
class_blank b = go (is_blank b) (is_good b)
  where
    go : (p q : Bool) → eqb (cond p 0 (cond q 1 2)) 0 ≡ p
    go true q = refl
    go false true = refl
    go false false = refl

pub class_good : (b : ℕ) → eqb (class_of b) 1 ≡ is_good b
unfolding class_of
class_good b = go (is_blank b) (is_good b) (blank_not_good b)
  where
    go : (p q : Bool) → (p ≡ true → q ≡ false) → eqb (cond p 0 (cond q 1 2)) 1 ≡ q
    go true q h = sym (h refl)
    go false true h = refl
    go false false h = refl

-- a byte goes on with a line unless it is byte 10
pub in_line : (b : ℕ) → (b ≡ 10 → ⊥) → is_in_line b ≡ true
unfolding is_in_line
in_line b h = rw (ne_eqb b 10 h)

pub ends_line : (b : ℕ) → b ≡ 10 → is_in_line b ≡ false
unfolding is_in_line
ends_line b e = rw (eq-eqb b 10 e)
