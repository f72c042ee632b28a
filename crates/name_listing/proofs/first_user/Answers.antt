-- `name_listing::first_user` meets its contract.
use Rattle.name_listing.proofs.LineLaws.{first_found, none_first, not_yet}
use borrow.Author.Rules.{rules}
use mathlib.Core.Path.{◌∙◌, ◌≡◌, sym}
use native.Mathlib.Omega.{arith}
use Rattle.name_listing.proofs.first_user.Goals as goal

pub loop-j-init : goal.loop-j-init
loop-j-init c = let a = c.args in (search rules, none_first a.records.now a.d)

pub returns-then-uses : goal.returns-then-uses
returns-then-uses c = let l = c.loop-j in let a = c.args in first_found a.records.now a.d l.j a.count (omega arith) l.invariant.1 (sym c.uses.ensures ∙ c.if-uses.true)

pub loop-j-preserved : goal.loop-j-preserved
loop-j-preserved c = let l = c.loop-j in let a = c.args in (omega arith, not_yet a.records.now a.d l.j l.invariant.1 (sym c.uses.ensures ∙ c.if-uses.false))

pub returns : goal.returns
returns c =
    let l = c.loop-j in
    let e : l.j ≡ c.args.count = omega arith in
    rw (← e) (sym l.invariant.1)
