-- `grouping::looked` meets its contract.
use mathlib.Core.Path.{◌≡◌, ◌∙◌, subst, sym}
use Prim.Native.Nat.{◌-◌}
use native.Mathlib.Omega.{arith}
use Rattle.grouping.specs.Code.{Looked}
use Rattle.ties.specs.Ties.{held_rows}
use Rattle.grouping.proofs.ScanLaws.{looked_all, looked_held, looking_apart, looking_known, looking_placed}
use Rattle.grouping.proofs.looked.Goals as goal

pub loop-known-init : goal.loop-known-init
loop-known-init c = looking_known _ _ _ c.requires

pub loop-known-preserved-then-seen-i : goal.loop-known-preserved-then-seen-i
loop-known-preserved-then-seen-i c = looking_placed _ _ _ _ c.loop-known.invariant (omega arith) c.if-seen-i.true

pub returns-then-held : goal.returns-then-held
returns-then-held c = looked_held _ _ _ _ c.loop-known.invariant c.if-seen-i.false (sym c.held.ensures ∙ c.if-held.true)

pub loop-known-preserved : goal.loop-known-preserved
loop-known-preserved c = looking_apart _ _ _ _ c.loop-known.invariant (omega arith) (sym c.held.ensures ∙ c.if-held.false)

pub returns : goal.returns
returns c =
    let a = c.args in
    let tied = held_rows a.records.now a.classes.now in
    let all : c.loop-known.known ≡ a.k - 1 = omega arith in
    subst (Looked tied a.seen.now a.k) all (looked_all tied a.seen.now a.k c.loop-known.known c.loop-known.invariant (omega arith))
