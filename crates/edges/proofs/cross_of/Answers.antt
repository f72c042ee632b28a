-- `edges::cross_of` meets its contract.
use mathlib.Core.Path.{◌∙◌}
use lib.Ieee.{binary64, sub}
use Rattle.edges.specs.Normal.{cross}
use Rattle.steps.specs.Step.{step}
use Rattle.edges.proofs.cross_of.Goals as goal

pub returns : goal.returns
unfolding cross
returns c =
    let at-step = c.step in
    let at-step2 = c.step-2 in
    let at-step3 = c.step-3 in
    let at-step4 = c.step-4 in
    let at-step5 = c.step-5 in
    let at-step6 = c.step-6 in
    let at-step7 = c.step-7 in
    let at-step8 = c.step-8 in
    let at-step9 = c.step-9 in
    λ i. record { x = (at-step3.ensures ∙ (λ j. step (sub binary64 (at-step.ensures j) (at-step2.ensures j)))) i; y = (at-step6.ensures ∙ (λ j. step (sub binary64 (at-step4.ensures j) (at-step5.ensures j)))) i; z = (at-step9.ensures ∙ (λ j. step (sub binary64 (at-step7.ensures j) (at-step8.ensures j)))) i }
