-- `hits::first_ahead` meets its contract.
use Rattle.hits.specs.Shape.{first_ahead}
use Rattle.hits.proofs.first_ahead.Goals as goal

pub returns-then-is_ahead : goal.returns-then-is_ahead
unfolding first_ahead
returns-then-is_ahead c = simp (← c.is_ahead.ensures, c.if-is_ahead.true)

pub returns-then-is_ahead-2 : goal.returns-then-is_ahead-2
unfolding first_ahead
returns-then-is_ahead-2 c =
    simp (← c.is_ahead.ensures, c.if-is_ahead.false, ← c.is_ahead-else-is_ahead.ensures, c.if-is_ahead-2.true)

pub returns-else-is_ahead-2 : goal.returns-else-is_ahead-2
unfolding first_ahead
returns-else-is_ahead-2 c =
    simp (← c.is_ahead.ensures, c.if-is_ahead.false, ← c.is_ahead-else-is_ahead.ensures, c.if-is_ahead-2.false)
