-- `root::find_digits` meets its contract.
use mathlib.Core.Path.{◌≡◌, sym, ap, ◌∙◌}
use Prim.Native.Nat.{ℕ, ◌+◌, ◌-◌, ◌*◌, ◌^◌, ◌≤◌, ◌<◌}
use native.Mathlib.Nat.{mul_assoc, pow-suc}
use native.Mathlib.Numerals.{add-one}
use native.Mathlib.Omega.{arith}
use borrow.Author.Rules.{rules}
use Rattle.root.specs.Root.{whole_root}
use Rattle.root.proofs.RootLaws.{IsRoot, square_next, one_root, whole_root_lem, places_52}
use Rattle.root.proofs.find_digits.Goals as goal
use Rattle.root.proofs.find_digits.Goals.{After-loop-d}

-- a number of whole units of 2 ^ 54 has none of the w left
cut : (m x w : ℕ) → m * 2 ^ 54 ≡ x * 2 ^ 54 + w → w < 2 ^ 54 → m ≡ x
cut m x w e h = omega arith

within : (m s rest : ℕ) → m ≡ s * s + rest → rest ≤ s * 2 → IsRoot m s
within m s rest e h = omega (arith, square_next s)

pub loop-d-init : goal.loop-d-init
loop-d-init c = omega arith

pub loop-d-smaller : goal.loop-d-smaller
loop-d-smaller c = omega arith

pub loop-d-preserved : goal.loop-d-preserved
loop-d-preserved c =
    let n = c.args.number in
    let at = c.loop-d in
    let i = at.d.found in
    let e = c.next_digit-d.ensures in
    let power : n * 4 ^ i * 4 ≡ n * 4 ^ c.next_digit-d.result.found = mul_assoc n (4 ^ i) 4 ∙ ap (λ (k : ℕ). n * k) (sym (pow-suc 4 i)) ∙ ap (λ (k : ℕ). n * 4 ^ k) (sym (e.digit ∙ add-one i)) in
    (e.found, e.same ∙ ap (λ (k : ℕ). k * 4) at.invariant.1 ∙ power, omega arith)

-- where the loop ends, the root is the whole root
all_found : (c : After-loop-d) → (c.loop-d.d.found ≡ 53) × (c.loop-d.d.root ≡ whole_root 53 (c.args.number * 2 ^ 52))
all_found c =
    let at = c.loop-d in
    let d = at.d in
    let n = c.args.number in
    let all : d.found ≡ 53 = omega arith in
    let m : n * 2 ^ 52 ≡ d.root * d.root + d.rest = cut (n * 2 ^ 52) _ d.number (mul_assoc n (2 ^ 52) (2 ^ 54) ∙ ap (λ (k : ℕ). n * 4 ^ k) (sym all) ∙ sym at.invariant.1) at.invariant.0.number_small in
    (all, one_root (n * 2 ^ 52) d.root _ (within _ _ _ m at.invariant.0.rest_small) (whole_root_lem 53 (n * 2 ^ 52) (places_52 n c.requires)))

pub returns : goal.returns
returns c = search (all_found, rules)
