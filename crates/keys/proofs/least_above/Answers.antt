-- `keys::least_above_lem` meets its contract.
use mathlib.Core.Path.{ap, ◌∙◌}
use native.Mathlib.Omega.{arith}
use borrow.Author.Rules.{rules}
use Rattle.keys.proofs.ScanLaws.{least_start, least_step}
use Rattle.keys.specs.Scan.{least_in}
use Rattle.keys.proofs.least_above.Goals as goal

pub loop-k-init : goal.loop-k-init
loop-k-init c =
    let a = c.args in
    (search rules, least_start a.text.now a.records.now a.name.now)

pub loop-k-preserved : goal.loop-k-preserved
loop-k-preserved c =
    let a = c.args in
    (search rules, least_step a.text.now a.records.now a.name.now c.loop-k.k c.loop-k.best _ c.loop-k.invariant.1 c.better-best.ensures)

pub returns : goal.returns
returns c =
    let a = c.args in
    c.loop-k.invariant.1 ∙ ap (least_in a.text.now a.records.now a.name.now) (omega (arith, c.loop-k.invariant.0, c.loop-k-test.false))
