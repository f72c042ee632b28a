-- `hits::solve` meets its contract.
use mathlib.Core.Bool.{not, cond, ◌&&◌}
use mathlib.Core.List.{[], ◌∷◌}
use mathlib.Core.Path.{◌≡◌}
use lib.Ieee.{of_bits}
use Rattle.steps.proofs.StepLaws.{div_l}
use Rattle.hits.proofs.ShapeLaws.{hit_cond}
use Rattle.hits.specs.Outcome.{refused}
use Rattle.hits.specs.Shape.{first_ahead, hit_of}
use Rattle.hits.specs.Sphere.{hit_at, solved}
use Rattle.hits.proofs.solve.Goals as goal
use Rattle.hits.proofs.solve.Goals.{After-is_finite-3}

-- the definition, by what the calls gave
by-calls : (c : After-is_finite-3) →
    let a = c.args in
    hit_of a.least (solved a.a a.b a.discriminant) ≡
    cond (not (c.is_finite-2.result && c.is_finite-3.result)) (refused 20) (first_ahead a.least (hit_at c.step-near.result ∷ hit_at c.step-far.result ∷ []))
unfolding solved of_bits
by-calls c =
    simp (hit_cond, div_l, ← c.is_finite.ensures, c.if-not-is_finite.false-raw, c.if-discriminant.false, ← c.root.ensures, ← c.step-e.ensures, ← c.step-near.ensures, ← c.step-far.ensures, ← c.is_finite-2.ensures, ← c.is_finite-3.ensures)

pub returns-then-not-is_finite : goal.returns-then-not-is_finite
unfolding solved
returns-then-not-is_finite c = simp (hit_cond, ← c.is_finite.ensures, c.if-not-is_finite.true-raw)

pub returns-then-discriminant : goal.returns-then-discriminant
unfolding solved first_ahead of_bits
returns-then-discriminant c = simp (hit_cond, ← c.is_finite.ensures, c.if-not-is_finite.false-raw, c.if-discriminant.true)

pub returns-then-not-is_finite-2 : goal.returns-then-not-is_finite-2
returns-then-not-is_finite-2 c = simp (by-calls (goal.at.returns-then-not-is_finite-2 c).After-is_finite-3, c.if-not-is_finite-2.true-raw)

pub returns : goal.returns
returns c = simp (by-calls (goal.at.returns c).After-is_finite-3, c.if-not-is_finite-2.false-raw) c.first_ahead.ensures
