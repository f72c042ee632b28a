-- `grouping::next` meets its contract.
use mathlib.Core.Bool.{true, false}
use mathlib.Core.Path.{◌∙◌, sym}
use native.Mathlib.Omega.{arith}
use Rattle.grouping.proofs.ChoiceLaws.{choosing_all, choosing_free, choosing_held, choosing_none, choosing_placed, kept_waiting}
use Rattle.grouping.proofs.next.Goals as goal

pub loop-passed-init : goal.loop-passed-init
loop-passed-init c = choosing_none _ _ _ _ c.requires

pub loop-passed-preserved-then-seen-k : goal.loop-passed-preserved-then-seen-k
loop-passed-preserved-then-seen-k c = choosing_placed _ _ _ _ _ _ _ c.loop-passed.invariant (omega arith) c.if-seen-k.true

pub looked-known-requires : goal.looked-known-requires
looked-known-requires c = kept_waiting _ _ _ _ c.loop-passed.invariant.kept (omega arith) c.if-seen-k.false

pub loop-passed-preserved-then-known-k : goal.loop-passed-preserved-then-known-k
loop-passed-preserved-then-known-k c = choosing_held _ _ _ _ _ _ _ c.loop-passed.invariant (omega arith) _ c.if-seen-k.false c.looked-known.ensures c.if-known-k.true

pub loop-passed-preserved : goal.loop-passed-preserved
loop-passed-preserved c = choosing_free _ _ _ _ _ _ _ c.loop-passed.invariant (omega arith) _ c.if-seen-k.false c.looked-known.ensures true c.if-known-k.false (sym c.is_better.ensures ∙ c.if-not-is_better.false)

pub loop-passed-preserved-then-not-is_better : goal.loop-passed-preserved-then-not-is_better
loop-passed-preserved-then-not-is_better c = choosing_free _ _ _ _ _ _ _ c.loop-passed.invariant (omega arith) _ c.if-seen-k.false c.looked-known.ensures false c.if-known-k.false (sym c.is_better.ensures ∙ c.if-not-is_better.true)

pub returns : goal.returns
returns c = choosing_all _ _ _ _ _ _ _ c.loop-passed.invariant (omega arith)
