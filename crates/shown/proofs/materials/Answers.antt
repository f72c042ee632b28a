-- `shown::materials` meets its contract.
use mathlib.Core.Path.{◌≡◌, sym}
use Prim.Native.Nat.{◌-◌}
use native.Mathlib.Omega.{arith}
use borrow.Author.Rules.{rules}
use lib.ListN.{length, replicate}
use Rattle.shown.proofs.ListLaws.{adds_le, holds_all, holds_none, turn}
use Rattle.shown.specs.Code.{marked_material}
use Rattle.shown.proofs.materials.Goals as goal

pub loop-n-init : goal.loop-n-init
loop-n-init c =
    let a = c.args in
    let cleared = c.fill in
    let blank : cleared.new.self ≡ replicate (length a.list.now) 0 = search rules in (
      omega arith,
      omega arith,
      search rules,
      holds_none (marked_material a.records.now a.marks.now) (length a.list.now) (length cleared.new.self) cleared.new.self (sym cleared.ensures.len) blank,
    )

pub loop-n-preserved : goal.loop-n-preserved
loop-n-preserved c =
    let added = c.add-used in
    let l = c.loop-n in
    let cleared = c.fill in
    let a = c.args in (
      let h = adds_le _ _ _ _ _ _ _ added.ensures in omega arith,
      omega arith,
      search rules,
      turn a.records.now a.marks.now (length cleared.new.self) l.list added.new.list l.n l.used added.result l.invariant.3 added.ensures,
    )

pub returns : goal.returns
returns c =
    let l = c.loop-n in
    let cleared = c.fill in
    let a = c.args in
    holds_all (marked_material a.records.now a.marks.now) l.n (length a.marks.now - 1) (length cleared.new.self) (length a.list.now) l.list l.used (omega arith) cleared.ensures.len l.invariant.3
