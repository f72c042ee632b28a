-- `name_listing::put_laters` meets its contract.
use Rattle.lines.proofs.PutsLaws.{puts_as, puts_length, puts_more, puts_none}
use Rattle.name_listing.proofs.LineLaws.{laters_more, laters_none}
use Rattle.name_listing.specs.NameLine.{later_users}
use borrow.Author.Rules.{rules}
use mathlib.Core.Path.{◌≡◌, sym}
use native.Mathlib.Omega.{arith}
use Rattle.name_listing.proofs.put_laters.Goals as goal

pub loop-j-init : goal.loop-j-init
loop-j-init c = let a = c.args in (search rules, puts_as _ (sym (laters_none a.records.now a.d a.first)) (puts_none _ _))

pub loop-j-preserved : goal.loop-j-preserved
loop-j-preserved c =
    let l = c.loop-j in
    let a = c.args in
    (omega arith, puts_as _ (laters_more a.records.now a.d a.first l.j) (puts_more (later_users a.records.now a.d a.first l.j) _ l.invariant.1 c.put_later-end.ensures))

pub shape_of-out : goal.shape_of-out
shape_of-out c = puts_length c.loop-j.invariant.1

pub returns : goal.returns
returns c =
    let l = c.loop-j in
    let e : l.j ≡ c.args.count = omega arith in
    rw (← e) l.invariant.1
