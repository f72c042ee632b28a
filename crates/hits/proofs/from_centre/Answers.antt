-- `hits::from_centre` meets its contract.
use mathlib.Core.Bool.{not, cond, ◌&&◌}
use mathlib.Core.Path.{◌≡◌}
use lib.Ieee.{eq, of_bits}
use Rattle.steps.specs.Step.{◌⊖◌, ◌⊗◌, +0}
use Rattle.steps.specs.Vectors.{dot}
use Rattle.steps.proofs.StepLaws.{sub_l, sub_r}
use Rattle.hits.proofs.ShapeLaws.{hit_cond}
use Rattle.hits.specs.Outcome.{refused}
use Rattle.hits.specs.Shape.{hit_of}
use Rattle.hits.specs.Sphere.{from_centre, solved}
use Rattle.hits.proofs.from_centre.Goals as goal
use Rattle.hits.proofs.from_centre.Goals.{After-is_finite}

-- the definition, by what the first calls gave
by-calls : (c : After-is_finite) →
    let args = c.args in let p = args.p in let d = args.d in let r = args.radius in let a = c.dot-a.result in
    hit_of args.least (from_centre p d r) ≡
    cond (not (c.is_finite_vector.result && c.is_finite.result)) (refused 20)
    (cond (eq a +0) (refused 21) (hit_of args.least (solved a (dot p d) (dot p d ⊗ dot p d ⊖ a ⊗ (dot p p ⊖ r ⊗ r)))))
unfolding from_centre
by-calls c = simp (hit_cond, ← c.dot-a.ensures, ← c.is_finite_vector.ensures, ← c.is_finite.ensures)

pub returns-then-not-is_finite_vector-is_finite : goal.returns-then-not-is_finite_vector-is_finite
returns-then-not-is_finite_vector-is_finite c = simp (by-calls (goal.at.returns-then-not-is_finite_vector-is_finite c).After-is_finite, c.if-not-is_finite_vector-is_finite.true-raw)

pub returns-then-a : goal.returns-then-a
unfolding of_bits
returns-then-a c = simp (by-calls (goal.at.returns-then-a c).After-is_finite, c.if-not-is_finite_vector-is_finite.false-raw, c.if-a.true)

pub returns : goal.returns
unfolding of_bits
returns c =
    simp (sub_l, sub_r, by-calls (goal.at.returns c).After-is_finite, c.if-not-is_finite_vector-is_finite.false-raw, c.if-a.false, ← c.dot-b.ensures, ← c.dot.ensures, ← c.step-q.ensures, ← c.step.ensures) c.solve.ensures
