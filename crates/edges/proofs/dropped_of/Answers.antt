-- `edges::dropped_of` meets its contract.
use Rattle.edges.specs.Normal.{dropped}
use Rattle.edges.proofs.dropped_of.Goals as goal

pub returns-then-y-z : goal.returns-then-y-z
unfolding dropped
returns-then-y-z c =
    simp (← c.magnitude_of-x.ensures, ← c.magnitude_of-y.ensures, ← c.magnitude_of-z.ensures, c.if-x-y.true, c.if-y-z.true)

pub returns-then-x-y : goal.returns-then-x-y
unfolding dropped
returns-then-x-y c =
    simp (← c.magnitude_of-x.ensures, ← c.magnitude_of-y.ensures, ← c.magnitude_of-z.ensures, c.if-x-y.true, c.if-y-z.false)

pub returns-then-x-z : goal.returns-then-x-z
unfolding dropped
returns-then-x-z c =
    simp (← c.magnitude_of-x.ensures, ← c.magnitude_of-y.ensures, ← c.magnitude_of-z.ensures, c.if-x-y.false, c.if-x-z.true)

pub returns : goal.returns
unfolding dropped
returns c =
    simp (← c.magnitude_of-x.ensures, ← c.magnitude_of-y.ensures, ← c.magnitude_of-z.ensures, c.if-x-y.false, c.if-x-z.false)
