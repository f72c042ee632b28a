-- `ties::class_of` meets its contract.
use native.Mathlib.Omega.{arith}
use Rattle.ties.proofs.ClassLaws.{first_none, class_found, not_yet, class_none}
use borrow.Author.Rules.{rules}
use Rattle.ties.proofs.class_of.Goals as goal

pub loop-m-init : goal.loop-m-init
loop-m-init c = let a = c.args in (search rules, first_none a.text.now a.records.now _)

pub returns-then-same : goal.returns-then-same
returns-then-same c =
    let a = c.args in
    class_found a.text.now a.records.now a.n c.loop-m.m _ _ _ c.same.ensures c.name_of.ensures c.name_of-name.ensures c.loop-m.invariant.1 c.if-same.true c.loop-m-test.true

pub loop-m-preserved : goal.loop-m-preserved
loop-m-preserved c =
    let a = c.args in
    (search rules, not_yet a.text.now a.records.now a.n c.loop-m.m _ _ _ c.same.ensures c.name_of.ensures c.name_of-name.ensures c.loop-m.invariant.1 c.if-same.false)

pub returns : goal.returns
returns c =
    let a = c.args in
    class_none a.text.now a.records.now a.n _ c.loop-m.invariant.1 (omega (arith, c.loop-m.invariant.0, c.loop-m-test.false))
