-- `moved_text::put_all` meets its contract.
use mathlib.Core.Path.{◌≡◌}
use Prim.Native.Nat.{◌-◌}
use native.Mathlib.Omega.{arith}
use Rattle.lines.proofs.PutsLaws.{puts_as, puts_length, puts_more, puts_none}
use Rattle.moved_text.proofs.ChangeLaws.{one_moved}
use Rattle.moved_text.specs.MovedText.{moved_rows}
use borrow.Author.Rules.{rules}
use Rattle.moved_text.proofs.put_all.Goals as goal

pub loop-n-init : goal.loop-n-init
unfolding moved_rows
loop-n-init c = puts_none _ _

pub loop-n-preserved : goal.loop-n-preserved
loop-n-preserved c =
    let l = c.loop-n in
    let a = c.args in
    puts_as _ (one_moved a.direction a.text.now a.records.now l.n) (puts_more (moved_rows a.direction a.text.now a.records.now l.n) _ l.invariant c.put_moved-end.ensures)

pub shape_of-out : goal.shape_of-out
shape_of-out c = puts_length c.loop-n.invariant

pub returns : goal.returns
returns c =
    let l = c.loop-n in
    let e : l.n ≡ c.args.count = omega arith in
    rw (← e) l.invariant
