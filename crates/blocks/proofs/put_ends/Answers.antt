-- `blocks::put_ends` meets its contract.
use mathlib.Core.Path.{refl, ap, ◌∙◌}
use Prim.Native.Nat.{◌<◌, ◌-◌}
use native.Mathlib.Omega.{arith}
use borrow.Author.Rules.{rules}
use lib.ListN.{length, set, length-set}
use Rattle.blocks.proofs.CodeLaws.{puts_all, puts_more, puts_none}
use Rattle.blocks.proofs.put_ends.Goals as goal

pub loop-i-init : goal.loop-i-init
loop-i-init c = let a = c.args in puts_none a.text.now a.records.now a.ends.now

pub loop-i-preserved : goal.loop-i-preserved
loop-i-preserved c =
    let a = c.args in
    let l = c.loop-i in
    let h : l.i < length a.ends.now = omega arith in
    ap (λ d. set d l.i c.behind_line.result) l.invariant ∙ puts_more a.text.now a.records.now a.ends.now l.i h c.end_of.ensures c.behind_line.ensures

pub returns : goal.returns
returns c = let a = c.args in c.loop-i.invariant ∙ puts_all a.text.now a.records.now a.ends.now _ (omega arith)
