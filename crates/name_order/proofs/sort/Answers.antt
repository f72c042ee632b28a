-- `name_order::sort` meets its contract.
use mathlib.Core.Path.{refl, ap, ◌∙◌}
use native.Mathlib.Omega.{arith}
use Rattle.name_order.proofs.RunLaws.{numbered_runs, runs_sorted}
use Rattle.name_order.proofs.SortLaws.{earlier_strict}
use Rattle.name_order.specs.Sort.{earlier, sorted}
use Rattle.name_order.proofs.sort.Goals as goal

pub loop-width-init : goal.loop-width-init
loop-width-init c =
    let a = c.args in
    (omega arith, omega arith, refl, refl, numbered_runs (earlier a.text.now a.records.now) c.number.new.order c.number.ensures)

pub merge_runs-requires : goal.merge_runs-requires
merge_runs-requires c = record { tables = record { same = omega arith; few = omega arith }; some = omega arith; short = omega arith; runs = c.loop-width.invariant.4 }

pub merge_runs-requires-in-loop-width : goal.merge_runs-requires-in-loop-width
merge_runs-requires-in-loop-width c = record { tables = record { same = omega arith; few = omega arith }; some = omega arith; short = omega arith; runs = c.merge_runs.ensures }

pub loop-width-preserved : goal.loop-width-preserved
loop-width-preserved c = (omega arith, omega arith, omega arith, omega arith, c.merge_runs-in-loop-width.ensures)

pub returns : goal.returns
returns c =
    let a = c.args in
    let l = c.loop-width in
    let less = earlier a.text.now a.records.now in
    runs_sorted less (earlier_strict a.text.now a.records.now) l.order l.width (omega arith) l.invariant.4 ∙ ap (sorted less) (l.invariant.2 ∙ c.number.auto.order)
