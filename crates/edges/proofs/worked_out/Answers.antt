-- `edges::worked_out` meets its contract.
use mathlib.Core.Path.{ap, ◌∙◌}
use lib.Ieee.{Float, add, binary64, div, lt, mul, sub}
use Rattle.edges.proofs.CodeLaws.{worked}
use Rattle.std.specs.Bool.{then_some}
use Rattle.edges.specs.Code.{axis_of, crossed_of}
use Rattle.edges.specs.Crossing.{worked_out}
use Rattle.edges.specs.Normal.{first}
use Rattle.steps.specs.Step.{step}
use Rattle.edges.proofs.worked_out.Goals as goal

pub returns : goal.returns
unfolding worked_out
returns c =
    let a = c.args in
    let at-first-of = c.first_of-g in
    let at-second-of = c.second_of-h in
    let at-second-of2 = c.second_of in
    let at-step = c.step-up in
    let at-first-of2 = c.first_of in
    let at-step2 = c.step-wide in
    let at-second-of3 = c.second_of-2 in
    let at-step3 = c.step-high in
    let at-step4 = c.step in
    let at-step5 = c.step-2 in
    let at-step6 = c.step-at in
    let at-is-finite = c.is_finite in
    let at-first-of3 = c.first_of-2 in
    let up = at-step.ensures ∙ (λ i. step (sub binary64 (at-second-of2.ensures i) (at-second-of.ensures i))) in
    let wide = at-step2.ensures ∙ (λ i. step (sub binary64 (at-first-of2.ensures i) (at-first-of.ensures i))) in
    let high = at-step3.ensures ∙ (λ i. step (sub binary64 (at-second-of3.ensures i) (at-second-of.ensures i))) in
    let across = at-step4.ensures ∙ (λ i. step (mul binary64 (up i) (wide i))) in
    let part = at-step5.ensures ∙ (λ i. step (div binary64 (across i) (high i))) in
    let stands = at-step6.ensures ∙ (λ i. step (add binary64 (at-first-of.ensures i) (part i))) in
    ap crossed_of c.then_some.ensures
    ∙ ap (λ (g : Float). crossed_of (then_some at-is-finite.result (lt g at-step6.result))) at-first-of3.ensures
    ∙ worked (first (axis_of a.a) a.p) at-step6.result _ at-is-finite.ensures stands
