-- `comparison::next_step` meets its contract.
use mathlib.Core.Path.{ap, ◌∙◌}
use Rattle.content.proofs.ContentLaws.{reals_differ, reals_agree}
use Rattle.comparison.proofs.StepLaws.{one_next, step_end, step_next}
use Rattle.comparison.specs.Step.{step_told}
use Rattle.comparison.proofs.next_step.Goals as goal
use Rattle.comparison.proofs.next_step.Goals.{then-same_reals, else-same_reals}

pub returns-in_err-at : goal.returns-in_err-at
returns-in_err-at c =
    let a = c.args in
    ap step_told c.from_residual.ensures ∙ step_end a.left.text.now a.left.records.now a.left.reals.now a.right.text.now a.right.records.now a.right.reals.now a.from c.in_err-at.ensures

pub step_of-requires : goal.step_of-requires
step_of-requires c = one_next _ _ c.args.from _ c.in_ok-at.ensures

pub returns : goal.returns
returns c =
    let a = c.args in
    step_next a.left.text.now a.left.records.now a.left.reals.now a.right.text.now a.right.records.now a.right.reals.now a.from _ c.in_ok-at.ensures _ (elim c.if-same_reals.branch [ then-same_reals w ↦ w.same-is ∙ reals_agree a.left.text.now a.left.records.now _ a.right.text.now a.right.records.now _ a.left.reals.now a.right.reals.now _ c.same_reals.ensures w.if-same_reals.true _ w.same_but_reals-same.ensures | else-same_reals w ↦ w.same-is ∙ w.if-same_reals.false ∙ reals_differ a.left.text.now a.left.records.now _ a.right.text.now a.right.records.now _ a.left.reals.now a.right.reals.now _ c.same_reals.ensures w.if-same_reals.false ]) _ c.step_of.ensures
