-- `keys::times` meets its contract.
use mathlib.Core.List.{[]}
use mathlib.Core.Path.{ap, ◌∙◌}
use Prim.Native.Nat.{ℕ, ◌+◌}
use native.Mathlib.Omega.{arith}
use borrow.Author.Rules.{rules}
use Rattle.keys.proofs.ScanLaws.{hit_most, times_none, times_more}
use Rattle.keys.specs.Key.{times}
use Rattle.keys.specs.Rows.{rows_in}
use Rattle.keys.proofs.times.Goals as goal

pub loop-k-init : goal.loop-k-init
loop-k-init c =
    let a = c.args in
    (search rules, search rules, times_none a.text.now a.records.now a.name.now)

pub overflow_add-seen : goal.overflow_add-seen
overflow_add-seen c =
    let a = c.args in
    omega (arith, hit_most a.text.now a.records.now a.name.now (c.loop-k.k + 1) _ c.hit-seen.ensures, c.loop-k.invariant.1, c.loop-k-test.true)

pub loop-k-preserved : goal.loop-k-preserved
loop-k-preserved c =
    let a = c.args in
    (search rules, omega (arith, hit_most a.text.now a.records.now a.name.now (c.loop-k.k + 1) _ c.hit-seen.ensures, c.loop-k.invariant.1), times_more a.text.now a.records.now a.name.now c.loop-k.k _ _ c.loop-k.invariant.2 c.hit-seen.ensures)

pub returns : goal.returns
returns c =
    let a = c.args in
    c.loop-k.invariant.2 ∙ ap (λ (k : ℕ). times a.name.now (rows_in a.text.now a.records.now [] k)) (omega (arith, c.loop-k.invariant.0, c.loop-k-test.false))
