-- `ranks::ranks` meets its contract.
use mathlib.Core.Path.{◌≡◌, refl, ap, sym, ◌∙◌}
use Prim.Native.Nat.{ℕ, ◌<◌, min}
use native.Mathlib.Omega.{arith}
use borrow.Author.Rules.{rules}
use lib.ListN.{length, replicate}
use lib.Seq.{get_or-take, length-take-le}
use Rattle.ranks.proofs.CountLaws.{ranking_none, ranking_more, ranking_all}
use Rattle.ranks.specs.Rank.{ranks_of}
use Rattle.ranks.proofs.ranks.Goals as goal

pub loop-n-init : goal.loop-n-init
loop-n-init c =
    let a = c.args in
    let blank : c.fill.new.self ≡ replicate (length a.nths.now) 0 = search rules in
    ranking_none a.text.now a.records.now a.order.now (length c.fill.new.self) c.fill.new.self (blank ∙ ap (λ (n : ℕ). replicate n 0) (sym c.fill.ensures.len)) refl

pub loop-n-preserved : goal.loop-n-preserved
loop-n-preserved c =
    let a = c.args in
    let l = c.loop-n in
    let size = length-take-le c.min.result a.order.now (omega arith) in
    let inside : l.n-index < min 1024 (length a.order.now) = omega (arith, size) in
    ranking_more a.text.now a.records.now a.order.now (length c.fill.new.self) l.nths l.last l.nth l.n-index l.invariant inside _ c.rank-nth.result c.put.new.table (get_or-take _ a.order.now l.n-index 0 (omega arith)) c.rank-nth.ensures c.put.ensures

pub returns : goal.returns
returns c =
    let a = c.args in
    let l = c.loop-n in
    let size = length-take-le c.min.result a.order.now (omega arith) in
    let all : l.n-index ≡ min 1024 (length a.order.now) = omega (arith, size) in
    ranking_all a.text.now a.records.now a.order.now (length c.fill.new.self) l.nths l.last l.nth l.n-index l.invariant all ∙ ap (ranks_of a.text.now a.records.now a.order.now) c.fill.ensures.len
