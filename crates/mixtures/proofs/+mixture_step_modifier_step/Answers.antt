-- `mixtures::modifier_step` and `mixture_step`, which call each other, meet their contracts.
use mathlib.Core.Path.{◌∙◌}
use Rattle.table.proofs.QuestionLaws.{modifier_field}
use Rattle.mixtures.proofs.SideLaws.{goes_by_type}
use Rattle.mixtures.proofs.WalkLaws.{step_bounded, step_stops, step_goes_on, steps_aside}
use Rattle.mixtures.proofs.+mixture_step_modifier_step.Goals as goal

pub mixture_step-returns-clause-steps_aside : goal.mixture_step-returns-clause-steps_aside
mixture_step-returns-clause-steps_aside t c = steps_aside c.side.ensures c.side-2.ensures c.modifier_step.ensures.steps c.modifier_step-2.ensures.steps

pub modifier_step-returns-then-depth-eq0-clause-steps : goal.modifier_step-returns-then-depth-eq0-clause-steps
modifier_step-returns-then-depth-eq0-clause-steps t c = step_bounded c.if-marks-m-ne0.false c.if-depth-eq0.true

pub modifier_step-returns-then-passes-clause-steps : goal.modifier_step-returns-then-passes-clause-steps
modifier_step-returns-then-passes-clause-steps t c =
    let a = c.args in
    step_goes_on c.if-m-eq0.false (c.passes.ensures ∙ goes_by_type a.records.now a.pairs.now a.through a.m) c.if-marks-m-ne0.false c.if-passes.true (c.modifier.ensures ∙ modifier_field a.records.now a.m) c.modifier_step.ensures.steps c.mixture_step.ensures.steps_aside

pub modifier_step-returns-else-passes-clause-steps : goal.modifier_step-returns-else-passes-clause-steps
modifier_step-returns-else-passes-clause-steps t c =
    let a = c.args in
    step_stops c.if-m-eq0.false (c.passes.ensures ∙ goes_by_type a.records.now a.pairs.now a.through a.m) c.if-passes.false
