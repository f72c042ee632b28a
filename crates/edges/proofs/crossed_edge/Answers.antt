-- `edges::crossed_edge` meets its contract.
use mathlib.Core.Path.{◌∙◌}
use Rattle.edges.specs.Crossing.{crossed}
use Rattle.edges.proofs.crossed_edge.Goals as goal

pub returns-then-s-t : goal.returns-then-s-t
unfolding crossed
returns-then-s-t c =
    c.between_ends.ensures ∙ simp (← c.second_of-s.ensures, ← c.second_of-t.ensures, c.if-s-t.true)

pub returns-then-t-s : goal.returns-then-t-s
unfolding crossed
returns-then-t-s c =
    c.between_ends-then-t-s.ensures ∙ simp (← c.second_of-s.ensures, ← c.second_of-t.ensures, c.if-s-t.false, c.if-t-s.true)

pub returns : goal.returns
unfolding crossed
returns c =
    simp (← c.second_of-s.ensures, ← c.second_of-t.ensures, c.if-s-t.false, c.if-t-s.false)
