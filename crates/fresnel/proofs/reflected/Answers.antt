-- `fresnel::reflected` meets its contract.
use mathlib.Core.Bool.{not, cond}
use mathlib.Core.Path.{◌≡◌}
use Rattle.fresnel.specs.Fresnel.{reflected}
use Rattle.fresnel.specs.Outcome.{coefficients, refused}
use Rattle.fresnel.proofs.reflected.Goals as goal
use Rattle.fresnel.proofs.reflected.Goals.{After-is_finite}

-- the definition, by what the calls gave
by-calls : (c : After-is_finite) →
    let a = c.args in
    reflected a.cos1 a.n1 a.n2 a.cos2 ≡ cond (not c.is_finite.result) (refused 20) (coefficients c.coefficient-te.result c.coefficient-tm.result c.mean-f.result)
unfolding reflected
by-calls c =
    simp (← c.step.ensures, ← c.step-2.ensures, ← c.coefficient-te.ensures, ← c.step-3.ensures, ← c.step-4.ensures, ← c.coefficient-tm.ensures, ← c.mean-f.ensures, ← c.is_finite.ensures)

pub returns-then-not-is_finite : goal.returns-then-not-is_finite
returns-then-not-is_finite c = simp (by-calls (goal.at.returns-then-not-is_finite c).After-is_finite, c.if-not-is_finite.true-raw)

pub returns : goal.returns
returns c = simp (by-calls (goal.at.returns c).After-is_finite, c.if-not-is_finite.false-raw)
