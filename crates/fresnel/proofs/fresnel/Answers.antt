-- `fresnel::fresnel` meets its contract.
use mathlib.Core.Bool.{not, cond}
use mathlib.Core.Path.{◌≡◌}
use lib.Ieee.{lt, of_bits}
use Rattle.steps.specs.Step.{step, +0}
use Rattle.root.specs.Root.{root_of}
use Rattle.fresnel.specs.Fresnel.{fresnel_of, reflected}
use Rattle.fresnel.specs.Outcome.{refused, total}
use Rattle.fresnel.proofs.fresnel.Goals as goal
use Rattle.fresnel.proofs.fresnel.Goals.{After-is_finite-4}

-- the definition, by what the calls gave
by-calls : (c : After-is_finite-4) →
    let a = c.args in
    fresnel_of a.cos1 a.n1 a.n2 ≡
    cond (not c.is_finite-4.result) (refused 20) (cond (lt c.cos2_squared-u.result +0) total (reflected a.cos1 a.n1 a.n2 (step (root_of c.cos2_squared-u.result))))
unfolding fresnel_of of_bits
by-calls c =
    simp (← c.is_finite.ensures, ← c.is_finite-2.ensures, ← c.is_finite-3.ensures, c.if-not-is_finite.false-raw, c.if-not-cos1-n1.false-raw, ← c.cos2_squared-u.ensures, ← c.is_finite-4.ensures)

pub returns-then-not-is_finite : goal.returns-then-not-is_finite
unfolding fresnel_of
returns-then-not-is_finite c = simp (← c.is_finite.ensures, ← c.is_finite-2.ensures, ← c.is_finite-3.ensures, c.if-not-is_finite.true-raw)

pub returns-then-not-cos1-n1 : goal.returns-then-not-cos1-n1
unfolding fresnel_of of_bits
returns-then-not-cos1-n1 c =
    simp (← c.is_finite.ensures, ← c.is_finite-2.ensures, ← c.is_finite-3.ensures, c.if-not-is_finite.false-raw, c.if-not-cos1-n1.true-raw)

pub returns-then-not-is_finite-2 : goal.returns-then-not-is_finite-2
returns-then-not-is_finite-2 c = simp (by-calls (goal.at.returns-then-not-is_finite-2 c).After-is_finite-4, c.if-not-is_finite-2.true-raw)

pub returns-then-u : goal.returns-then-u
unfolding of_bits
returns-then-u c = simp (by-calls (goal.at.returns-then-u c).After-is_finite-4, c.if-not-is_finite-2.false-raw, c.if-u.true)

pub returns : goal.returns
unfolding of_bits
returns c =
    simp (by-calls (goal.at.returns c).After-is_finite-4, c.if-not-is_finite-2.false-raw, c.if-u.false, ← c.root.ensures, ← c.step.ensures) c.reflected.ensures
