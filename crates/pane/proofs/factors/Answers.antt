-- `pane::factors` meets its contract.
use mathlib.Core.Bool.{not, cond, ◌&&◌}
use mathlib.Core.Path.{◌≡◌}
use Rattle.pane.specs.Factors.{back, factors, factors_of, refused, through}
use Rattle.pane.proofs.factors.Goals as goal
use Rattle.pane.proofs.factors.Goals.{After-is_finite-5}

-- the definition, by what the calls gave
by-calls : (c : After-is_finite-5) →
    let a = c.args in
    factors_of a.te a.tm a.ct ≡ cond (not (c.is_finite-4.result && c.is_finite-5.result)) (refused 20) (factors c.step-through.result c.step-back.result)
unfolding factors_of through back
by-calls c =
    simp (
      ← c.is_finite.ensures,
      ← c.is_finite-2.ensures,
      ← c.is_finite-3.ensures,
      c.if-not-is_finite.false-raw,
      ← c.is_fraction.ensures,
      ← c.is_fraction-2.ensures,
      ← c.is_fraction-3.ensures,
      c.if-not-is_fraction.false-raw,
      ← c.step-c.ensures,
      ← c.through_part.ensures,
      ← c.through_part-2.ensures,
      ← c.step-through.ensures,
      ← c.back_part.ensures,
      ← c.back_part-2.ensures,
      ← c.step-back.ensures,
      ← c.is_finite-4.ensures,
      ← c.is_finite-5.ensures,
    )

pub returns-then-not-is_finite : goal.returns-then-not-is_finite
unfolding factors_of
returns-then-not-is_finite c = simp (← c.is_finite.ensures, ← c.is_finite-2.ensures, ← c.is_finite-3.ensures, c.if-not-is_finite.true-raw)

pub returns-then-not-is_fraction : goal.returns-then-not-is_fraction
unfolding factors_of
returns-then-not-is_fraction c =
    simp (
      ← c.is_finite.ensures,
      ← c.is_finite-2.ensures,
      ← c.is_finite-3.ensures,
      c.if-not-is_finite.false-raw,
      ← c.is_fraction.ensures,
      ← c.is_fraction-2.ensures,
      ← c.is_fraction-3.ensures,
      c.if-not-is_fraction.true-raw,
    )

pub returns-then-not-is_finite-2 : goal.returns-then-not-is_finite-2
returns-then-not-is_finite-2 c = simp (by-calls (goal.at.returns-then-not-is_finite-2 c).After-is_finite-5, c.if-not-is_finite-2.true-raw)

pub returns : goal.returns
returns c = simp (by-calls (goal.at.returns c).After-is_finite-5, c.if-not-is_finite-2.false-raw)
