-- `root::root_of` meets its contract.
use mathlib.Core.Bool.{false}
use mathlib.Core.Path.{◌≡◌, sym, ap, ◌∙◌, subst}
use Prim.Native.Nat.{ℕ, ◌+◌, ◌*◌, ◌/◌, ◌%◌, ◌^◌, ◌≤◌, ◌<◌}
use native.Mathlib.Nat.{mul-one}
use native.Mathlib.Omega.{arith}
use lib.Ieee.{odd}
use Rattle.root.specs.Root.{whole_root, root_units}
use Rattle.root.proofs.RootLaws.{root_range, root_units_lem}
use Rattle.root.proofs.root_of.Goals as goal

pub assembled-requires : goal.assembled-requires
assembled-requires c =
    let n = c.filled-full in
    let r = root_range n.result.digits n.ensures.1 (omega arith) in
    let e = sym c.find_digits.ensures.1 in
    (omega arith, subst (λ (s : ℕ). 2 ^ 52 ≤ s) e r.0, subst (λ (s : ℕ). s < 2 ^ 53) e r.1)

pub assembled-requires-else-full-half : goal.assembled-requires-else-full-half
assembled-requires-else-full-half c =
    let n = c.filled-full in
    let r = root_range (n.result.digits * 2 % 2 ^ 64) (omega arith) (omega arith) in
    let e = sym c.find_digits-else-full-half.ensures.1 in
    (omega arith, subst (λ (s : ℕ). 2 ^ 52 ≤ s) e r.0, subst (λ (s : ℕ). s < 2 ^ 53) e r.1)

pub returns-then-full-half : goal.returns-then-full-half
returns-then-full-half c =
    let n = c.filled-full in
    let q = n.result.digits in
    let k = n.result.power in
    c.assembled.ensures
    ∙ ap (λ (s : ℕ). odd 53 false s (k / 2 + 485) 1074) (c.find_digits.ensures.1 ∙ ap (λ (w : ℕ). whole_root 53 (w * 2 ^ 52)) (sym (mul-one q)))
    ∙ sym (root_units_lem q k (k / 2) 0 n.ensures.1 n.ensures.0 (omega (arith, c.if-full-half.true)) (omega arith))
    ∙ ap (λ (x : ℕ). root_units (x * 2 ^ 1022)) n.ensures.2

pub returns-else-full-half : goal.returns-else-full-half
returns-else-full-half c =
    let n = c.filled-full in
    let q = n.result.digits in
    let k = n.result.power in
    let e : q * 2 % 2 ^ 64 ≡ q * 2 = omega arith in
    c.assembled-else-full-half.ensures
    ∙ ap (λ (s : ℕ). odd 53 false s (k / 2 + 485) 1074) (c.find_digits-else-full-half.ensures.1 ∙ ap (λ (w : ℕ). whole_root 53 (w * 2 ^ 52)) e)
    ∙ sym (root_units_lem q k (k / 2) 1 n.ensures.1 n.ensures.0 (omega (arith, c.if-full-half.false)) (omega arith))
    ∙ ap (λ (x : ℕ). root_units (x * 2 ^ 1022)) n.ensures.2
