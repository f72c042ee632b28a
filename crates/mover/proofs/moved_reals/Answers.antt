-- `mover::moved_reals` meets its contract.
use mathlib.Core.Path.{◌≡◌, ◌∙◌}
use Prim.Native.Nat.{◌+◌, ◌-◌, min}
use native.Mathlib.Omega.{arith}
use Rattle.mover.proofs.RealsLaws.{few_in, none_yet, one_more}
use borrow.Author.Rules.{rules}
use Rattle.mover.proofs.moved_reals.Goals as goal

pub loop-n-init : goal.loop-n-init
loop-n-init c = let a = c.args in (search rules, none_yet a.direction a.text.now a.records.now 0)

pub overflow_add-total : goal.overflow_add-total
overflow_add-total c =
    let a = c.args in
    omega (arith, few_in a.direction a.text.now a.records.now (c.loop-n.n + 1), c.reals_in.ensures, c.loop-n.invariant.0)

pub loop-n-preserved : goal.loop-n-preserved
loop-n-preserved c =
    let a = c.args in
    let l = c.loop-n in
    (omega (arith, c.min-total.ensures), c.min-total.ensures ∙ (λ i. min (l.invariant.1 i + c.reals_in.ensures i) 4097) ∙ one_more a.direction a.text.now a.records.now l.n)

pub returns : goal.returns
returns c =
    let l = c.loop-n in
    let e : l.n ≡ c.args.count = omega arith in
    rw (← e) l.invariant.1
