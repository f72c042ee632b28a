-- `blocks::check_crowding` meets its contract.
use Prim.Native.Nat.{◌-◌}
use native.Mathlib.Omega.{arith}
use borrow.Author.Rules.{rules}
use Rattle.blocks.proofs.CodeLaws.{crowded_first, crowded_here, crowded_never, crowded_on}
use Rattle.blocks.proofs.check_crowding.Goals as goal

pub loop-n-init : goal.loop-n-init
loop-n-init c = let a = c.args in crowded_first a.text.now a.records.now

pub returns-then-start-behind_line : goal.returns-then-start-behind_line
returns-then-start-behind_line c =
    let a = c.args in
    let l = c.loop-n in
    crowded_here a.text.now a.records.now l.n (omega arith) l.invariant c.end_of-end.ensures c.first_word-start.ensures c.behind_line.ensures c.if-start-behind_line.true a.count (omega arith)

pub loop-n-preserved : goal.loop-n-preserved
loop-n-preserved c =
    let a = c.args in
    let l = c.loop-n in
    crowded_on a.text.now a.records.now l.n (omega arith) l.invariant c.end_of-end.ensures c.first_word-start.ensures c.behind_line.ensures c.if-start-behind_line.false

pub returns : goal.returns
returns c =
    let a = c.args in
    let l = c.loop-n in
    crowded_never a.text.now a.records.now l.n a.count l.invariant (omega arith)
