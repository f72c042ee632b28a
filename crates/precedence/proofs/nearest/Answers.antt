-- `precedence::nearest` meets its contract.
use mathlib.Core.Bool.{true, false}
use mathlib.Core.Path.{sym, ◌∙◌}
use Rattle.precedence.proofs.ChainLaws.{nearest_all, nearest_more, nearest_past}
use Rattle.precedence.proofs.nearest.Goals as goal

pub loop-j-preserved-then-not-nearer : goal.loop-j-preserved-then-not-nearer
loop-j-preserved-then-not-nearer c = nearest_past _ _ _ c.loop-j.j c.loop-j.best c.loop-j-test.true c.if-not-nearer.true ∙ c.loop-j.invariant

pub loop-j-preserved-then-not-bound : goal.loop-j-preserved-then-not-bound
loop-j-preserved-then-not-bound c =
    nearest_more _ _ _ c.loop-j.j c.loop-j.best c.loop-j-test.true false c.if-not-nearer.false (sym c.bound.ensures ∙ c.if-not-bound.true) ∙ c.loop-j.invariant

pub loop-j-preserved : goal.loop-j-preserved
loop-j-preserved c =
    nearest_more _ _ _ c.loop-j.j c.loop-j.best c.loop-j-test.true true c.if-not-nearer.false (sym c.bound.ensures ∙ c.if-not-bound.false) ∙ c.loop-j.invariant

pub returns : goal.returns
returns c = nearest_all _ _ _ c.loop-j.j _ c.loop-j-test.false ∙ c.loop-j.invariant
