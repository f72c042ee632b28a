-- `hits::on_ring` meets its contract.
use mathlib.Core.Bool.{not, cond, ◌&&◌}
use mathlib.Core.Path.{◌≡◌}
use lib.Ieee.{le}
use Rattle.hits.specs.Outcome.{hit, miss, refused}
use Rattle.hits.specs.Ring.{on_ring}
use Rattle.hits.proofs.on_ring.Goals as goal
use Rattle.hits.proofs.on_ring.Goals.{After-is_finite-3}

-- the definition, by what the calls gave
by-calls : (c : After-is_finite-3) →
    let a = c.args in
    on_ring a.ray a.ring a.t ≡
    cond (not (c.is_finite.result && c.is_finite-2.result && c.is_finite-3.result)) (refused 20)
    (cond (le c.step-inner.result c.dot-s.result && le c.dot-s.result c.step-outer.result) (hit a.t) miss)
unfolding on_ring
by-calls c =
    simp (← c.along.ensures, ← c.minus-w.ensures, ← c.dot-s.ensures, ← c.step-inner.ensures, ← c.step-outer.ensures, ← c.is_finite.ensures, ← c.is_finite-2.ensures, ← c.is_finite-3.ensures)

pub returns-then-not-is_finite : goal.returns-then-not-is_finite
returns-then-not-is_finite c = simp (by-calls (goal.at.returns-then-not-is_finite c).After-is_finite-3, c.if-not-is_finite.true-raw)

pub returns-then-inner-s : goal.returns-then-inner-s
returns-then-inner-s c = simp (by-calls (goal.at.returns-then-inner-s c).After-is_finite-3, c.if-not-is_finite.false-raw, c.if-inner-s.true)

pub returns-else-inner-s : goal.returns-else-inner-s
returns-else-inner-s c = simp (by-calls (goal.at.returns-else-inner-s c).After-is_finite-3, c.if-not-is_finite.false-raw, c.if-inner-s.false)
