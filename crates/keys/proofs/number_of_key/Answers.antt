-- `keys::number_of_key` meets its contract.
use Prim.Native.Nat.{◌+◌}
use native.Mathlib.Omega.{arith}
use borrow.Author.Rules.{rules}
use Rattle.keys.proofs.ScanLaws.{hit_most, times_none, times_more, number_hit, number_none}
use Rattle.keys.proofs.number_of_key.Goals as goal

pub loop-k-init : goal.loop-k-init
loop-k-init c =
    let a = c.args in
    (search rules, search rules, search rules, times_none a.text.now a.records.now a.name.now)

pub overflow_add-seen : goal.overflow_add-seen
overflow_add-seen c =
    let a = c.args in
    omega (arith, hit_most a.text.now a.records.now a.name.now (c.loop-k.k + 1) _ c.hit-seen.ensures, c.loop-k.invariant.1, c.loop-k-test.true)

pub returns-then-above-seen : goal.returns-then-above-seen
returns-then-above-seen c =
    let a = c.args in
    number_hit a.text.now a.records.now a.name.now _ a.above c.loop-k.k _ _ c.loop-k-test.true c.loop-k.invariant.3 c.loop-k.invariant.2 c.hit-seen.ensures c.if-above-seen.true

pub loop-k-preserved : goal.loop-k-preserved
loop-k-preserved c =
    let a = c.args in
    (search rules, omega (arith, hit_most a.text.now a.records.now a.name.now (c.loop-k.k + 1) _ c.hit-seen.ensures, c.loop-k.invariant.1), search rules, times_more a.text.now a.records.now a.name.now c.loop-k.k _ _ c.loop-k.invariant.3 c.hit-seen.ensures)

pub returns : goal.returns
returns c =
    let a = c.args in
    number_none a.text.now a.records.now a.name.now _ a.above c.loop-k.k _ c.loop-k-test.false c.loop-k.invariant.0 c.loop-k.invariant.3 c.loop-k.invariant.2
