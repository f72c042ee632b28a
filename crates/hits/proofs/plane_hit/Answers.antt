-- `hits::plane_hit` meets its contract.
use mathlib.Core.Bool.{not, cond}
use mathlib.Core.Path.{◌≡◌}
use lib.Ieee.{of_bits}
use Rattle.hits.proofs.ShapeLaws.{hit_cond}
use Rattle.hits.specs.Ahead.{ahead}
use Rattle.hits.specs.Outcome.{hit, miss, refused}
use Rattle.hits.specs.Plane.{in_plane, plane_hit}
use Rattle.hits.specs.Shape.{first_ahead}
use Rattle.hits.proofs.plane_hit.Goals as goal
use Rattle.hits.proofs.plane_hit.Goals.{After-is_finite-2}

-- the definition, by what the calls gave
by-calls : (c : After-is_finite-2) →
    let a = c.args in
    plane_hit a.least a.ray a.c a.n ≡ cond (not c.is_finite-2.result) (refused 20) (cond (ahead a.least c.step-t.result) (hit c.step-t.result) miss)
unfolding in_plane first_ahead of_bits
by-calls c =
    simp (hit_cond, ← c.dot-m.ensures, ← c.is_finite.ensures, c.if-not-is_finite.false-raw, c.if-m.false, ← c.minus.ensures, ← c.dot.ensures, ← c.step-t.ensures, ← c.is_finite-2.ensures)

pub returns-then-not-is_finite : goal.returns-then-not-is_finite
unfolding in_plane
returns-then-not-is_finite c = simp (hit_cond, ← c.dot-m.ensures, ← c.is_finite.ensures, c.if-not-is_finite.true-raw)

pub returns-then-m : goal.returns-then-m
unfolding in_plane first_ahead of_bits
returns-then-m c =
    simp (hit_cond, ← c.dot-m.ensures, ← c.is_finite.ensures, c.if-not-is_finite.false-raw, c.if-m.true)

pub returns-then-not-is_finite-2 : goal.returns-then-not-is_finite-2
returns-then-not-is_finite-2 c = simp (by-calls (goal.at.returns-then-not-is_finite-2 c).After-is_finite-2, c.if-not-is_finite-2.true-raw)

pub returns-then-is_ahead : goal.returns-then-is_ahead
returns-then-is_ahead c =
    simp (by-calls (goal.at.returns-then-is_ahead c).After-is_finite-2, c.if-not-is_finite-2.false-raw, ← c.is_ahead.ensures, c.if-is_ahead.true)

pub returns-else-is_ahead : goal.returns-else-is_ahead
returns-else-is_ahead c =
    simp (by-calls (goal.at.returns-else-is_ahead c).After-is_finite-2, c.if-not-is_finite-2.false-raw, ← c.is_ahead.ensures, c.if-is_ahead.false)
