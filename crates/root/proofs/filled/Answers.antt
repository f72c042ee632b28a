-- `root::filled` meets its contract.
use mathlib.Core.Path.{◌≡◌, sym, ap, ◌∙◌}
use Prim.Native.Nat.{ℕ, zero, suc, ◌-◌, ◌*◌, ◌%◌, ◌^◌, ◌≤◌, ◌<◌}
use native.Mathlib.Nat.{mul_assoc, mul-one, pow-succ'}
use native.Mathlib.Omega.{arith}
use Rattle.root.proofs.filled.Goals as goal
use Rattle.root.proofs.filled.Goals.{In-loop-digits}

-- a number of fewer digits has a power to give
some : (q k : ℕ) → q < 2 ^ 52 → 2 ^ 52 ≤ q * 2 ^ k → 0 < k
some q zero h l = omega (arith, mul-one q)
some q (suc k) h l = omega arith

moved : (q k : ℕ) → 0 < k → q * 2 * 2 ^ (k - 1) ≡ q * 2 ^ k
moved q zero h = omega arith
moved q (suc k) h = mul_assoc q 2 (2 ^ (suc k - 1)) ∙ ap (λ (x : ℕ). q * x) (ap (λ (j : ℕ). 2 * 2 ^ j) (omega arith) ∙ sym (pow-succ' 2 k))

positive : (c : In-loop-digits) → 0 < c.loop-digits.power
positive c = some c.loop-digits.digits c.loop-digits.power (omega arith) (omega arith)

pub loop-digits-init : goal.loop-digits-init
loop-digits-init c = omega arith

pub overflow_sub-power : goal.overflow_sub-power
overflow_sub-power c = positive (goal.at.overflow_sub-power c).In-loop-digits

pub loop-digits-smaller : goal.loop-digits-smaller
loop-digits-smaller c = omega (arith, positive (goal.at.loop-digits-smaller c).In-loop-digits)

pub loop-digits-preserved : goal.loop-digits-preserved
loop-digits-preserved c =
    let q = c.loop-digits.digits in
    let k = c.loop-digits.power in
    let e : q * 2 % 2 ^ 64 ≡ q * 2 = omega arith in
    omega (arith, positive (goal.at.loop-digits-preserved c).In-loop-digits, moved q k (positive (goal.at.loop-digits-preserved c).In-loop-digits), ap (λ (x : ℕ). x * 2 ^ (k - 1)) e)

pub returns : goal.returns
returns c = omega arith
