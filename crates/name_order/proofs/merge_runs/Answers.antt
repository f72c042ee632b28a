-- `name_order::merge_runs` meets its contract.
use native.Mathlib.Omega.{arith}
use lib.ListN.{length}
use Rattle.name_order.proofs.RunLaws.{nearer, merged_slices, paired_none, paired_more, paired_all}
use Rattle.name_order.proofs.SortLaws.{earlier_strict}
use Rattle.name_order.specs.Sort.{earlier}
use Rattle.name_order.proofs.merge_runs.Goals as goal

pub loop-at-init : goal.loop-at-init
loop-at-init c =
    let a = c.args in
    (omega arith, paired_none (earlier a.text.now a.records.now) a.from.now a.to.now a.width (omega arith))

pub loop-at-smaller : goal.loop-at-smaller
loop-at-smaller c = nearer (length c.args.from.now) c.loop-at.at c.args.width c.loop-at-test.true c.requires.some

pub loop-at-preserved : goal.loop-at-preserved
loop-at-preserved c =
    let a = c.args in
    let l = c.loop-at in
    let less = earlier a.text.now a.records.now in
    let put = merged_slices less a.from.now l.to l.at a.width c.min-middle.result c.min-end.result (omega arith) c.min-middle.ensures c.min-end.ensures c.merge.new.out c.merge.ensures in
    (omega arith, paired_more less (earlier_strict a.text.now a.records.now) a.from.now l.to a.width l.at c.requires.runs l.invariant.1 c.loop-at-test.true _ put)

pub returns : goal.returns
returns c =
    let a = c.args in
    let l = c.loop-at in
    paired_all (earlier a.text.now a.records.now) a.from.now l.to a.width l.at l.invariant.1 (omega arith)
