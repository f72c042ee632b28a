-- `numeral::double::ten` meets its contract: each arm's double is computed, and is exactly its power of ten.
use mathlib.Core.Bool.{Bool, false}
use mathlib.Core.Path.{◌≡◌, refl, sym, ap}
use Prim.Native.Nat.{ℕ, zero, suc, ◌*◌, ◌^◌, ◌≤◌}
use native.Mathlib.Omega.{arith}
use lib.Ieee.{of_bits}
use Rattle.numeral.proofs.double.ten.Goals as goal

-- what `HasValue` asks of a whole double that is 10 to the power n
tens : {k : ℕ} (n : ℕ) → k ≡ n → (◌≡◌ {A = Bool} false false) × (10 ^ n * 1 ≡ 10 ^ k * 1)
tens n e = (refl, ap (λ (j : ℕ). 10 ^ j * 1) (sym e))

-- what is none of the first n numbers is at least n
abbrev NoneOf : ℕ → ℕ → Type 0
NoneOf zero k = Unit
NoneOf (suc n) k = NoneOf n k × (k ≡ n → ⊥)

least : {k : ℕ} (n : ℕ) → NoneOf n k → n ≤ k
least zero h = omega arith
least (suc n) h = let l = least n h.0 in omega arith

pub returns-in-0 : goal.returns-in-0
unfolding of_bits
returns-in-0 c = tens 0 c.in-0.is

pub returns-in-1 : goal.returns-in-1
unfolding of_bits
returns-in-1 c = tens 1 c.in-1.is

pub returns-in-2 : goal.returns-in-2
unfolding of_bits
returns-in-2 c = tens 2 c.in-2.is

pub returns-in-3 : goal.returns-in-3
unfolding of_bits
returns-in-3 c = tens 3 c.in-3.is

pub returns-in-4 : goal.returns-in-4
unfolding of_bits
returns-in-4 c = tens 4 c.in-4.is

pub returns-in-5 : goal.returns-in-5
unfolding of_bits
returns-in-5 c = tens 5 c.in-5.is

pub returns-in-6 : goal.returns-in-6
unfolding of_bits
returns-in-6 c = tens 6 c.in-6.is

pub returns-in-7 : goal.returns-in-7
unfolding of_bits
returns-in-7 c = tens 7 c.in-7.is

pub returns-in-8 : goal.returns-in-8
unfolding of_bits
returns-in-8 c = tens 8 c.in-8.is

pub returns-in-9 : goal.returns-in-9
unfolding of_bits
returns-in-9 c = tens 9 c.in-9.is

pub returns-in-10 : goal.returns-in-10
unfolding of_bits
returns-in-10 c = tens 10 c.in-10.is

pub returns-in-11 : goal.returns-in-11
unfolding of_bits
returns-in-11 c = tens 11 c.in-11.is

pub returns-in-12 : goal.returns-in-12
unfolding of_bits
returns-in-12 c = tens 12 c.in-12.is

pub returns-in-13 : goal.returns-in-13
unfolding of_bits
returns-in-13 c = tens 13 c.in-13.is

pub returns-in-14 : goal.returns-in-14
unfolding of_bits
returns-in-14 c = tens 14 c.in-14.is

pub returns-in-15 : goal.returns-in-15
unfolding of_bits
returns-in-15 c = tens 15 c.in-15.is

pub returns-in-16 : goal.returns-in-16
unfolding of_bits
returns-in-16 c = tens 16 c.in-16.is

pub returns-in-17 : goal.returns-in-17
unfolding of_bits
returns-in-17 c = tens 17 c.in-17.is

pub returns-in-18 : goal.returns-in-18
unfolding of_bits
returns-in-18 c = tens 18 c.in-18.is

pub returns-in-19 : goal.returns-in-19
unfolding of_bits
returns-in-19 c = tens 19 c.in-19.is

pub returns-in-20 : goal.returns-in-20
unfolding of_bits
returns-in-20 c = tens 20 c.in-20.is

pub returns-in-21 : goal.returns-in-21
unfolding of_bits
returns-in-21 c = tens 21 c.in-21.is

pub returns-in_default : goal.returns-in_default
unfolding of_bits
returns-in_default c = tens 22 (omega (arith, least 22 c.in_default.in_default-own.rest))
