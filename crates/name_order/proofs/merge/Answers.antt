-- `name_order::merge` meets its contract.
use mathlib.Core.Bool.{true, false}
use mathlib.Core.Path.{◌≡◌, refl, subst, sym, ◌∙◌}
use Prim.Native.Nat.{ℕ, ◌+◌, ◌<◌}
use native.Mathlib.Omega.{arith}
use lib.ListN.{length, get_or, set, drop}
use Rattle.name_order.proofs.TurnLaws.{Merging, merging_none, right_there, merging_right, left_there, merging_left, merging_all}
use Rattle.name_order.specs.Merge.{right_first}
use Rattle.name_order.specs.Sort.{earlier}
use Rattle.name_order.proofs.merge.Goals as goal
use Rattle.name_order.proofs.merge.Goals.{Else-right_first, Then-right_first}

-- what the test says of the two runs
goes-right : (c : Then-right_first) → let a = c.args in right_first (earlier a.text.now a.records.now) (drop c.loop-entry.i a.left.now) (drop c.loop-entry.j a.right.now) ≡ true
goes-right c = sym c.right_first.ensures ∙ c.if-right_first.true

right-in : (c : Then-right_first) → c.loop-entry.j < length c.args.right.now
right-in c =
    let a = c.args in
    let l = c.loop-entry in
    right_there (earlier a.text.now a.records.now) a.left.now a.right.now l.out l.i l.j l.invariant.0 (goes-right c)

goes_left : (c : Else-right_first) → let a = c.args in right_first (earlier a.text.now a.records.now) (drop c.loop-entry.i a.left.now) (drop c.loop-entry.j a.right.now) ≡ false
goes_left c = sym c.right_first.ensures ∙ c.if-right_first.false

left_in : (c : Else-right_first) → c.loop-entry.i < length c.args.left.now
left_in c =
    let a = c.args in
    let l = c.loop-entry in
    left_there (earlier a.text.now a.records.now) a.left.now a.right.now l.out l.i l.j l.invariant.0 (goes_left c) (omega (arith, c.loop-entry.invariant.1))

pub loop-entry-init : goal.loop-entry-init
loop-entry-init c =
    let a = c.args in
    (merging_none (earlier a.text.now a.records.now) a.left.now a.right.now a.out.now c.requires, refl)

pub bounds-right-j : goal.bounds-right-j
bounds-right-j c = omega (arith, right-in (goal.at.bounds-right-j c).Then-right_first)

pub overflow_add-j : goal.overflow_add-j
overflow_add-j c = omega (arith, right-in (goal.at.overflow_add-j c).Then-right_first)

pub loop-entry-preserved-then-right_first : goal.loop-entry-preserved-then-right_first
loop-entry-preserved-then-right_first c =
    let a = c.args in
    let l = c.loop-entry in
    let m = merging_right (earlier a.text.now a.records.now) a.left.now a.right.now l.out l.i l.j l.invariant.0 (goes-right (goal.at.loop-entry-preserved-then-right_first c).Then-right_first) in
    (subst (λ (at : ℕ). Merging (earlier a.text.now a.records.now) a.left.now a.right.now (set l.out at (get_or a.right.now l.j 0)) l.i (l.j + 1)) l.invariant.1 m, omega (arith, l.invariant.1))

pub bounds-left-i : goal.bounds-left-i
bounds-left-i c = omega (arith, left_in (goal.at.bounds-left-i c).Else-right_first)

pub overflow_add-i : goal.overflow_add-i
overflow_add-i c = omega (arith, left_in (goal.at.overflow_add-i c).Else-right_first)

pub loop-entry-preserved : goal.loop-entry-preserved
loop-entry-preserved c =
    let a = c.args in
    let l = c.loop-entry in
    let m = merging_left (earlier a.text.now a.records.now) a.left.now a.right.now l.out l.i l.j l.invariant.0 (goes_left (goal.at.loop-entry-preserved c).Else-right_first) (omega (arith, l.invariant.1)) in
    (subst (λ (at : ℕ). Merging (earlier a.text.now a.records.now) a.left.now a.right.now (set l.out at (get_or a.left.now l.i 0)) (l.i + 1) l.j) l.invariant.1 m, omega (arith, l.invariant.1))

pub returns : goal.returns
returns c =
    let a = c.args in
    let l = c.loop-entry in
    merging_all (earlier a.text.now a.records.now) a.left.now a.right.now l.out l.i l.j l.invariant.0 (omega (arith, l.invariant.1))
