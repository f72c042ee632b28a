-- `precedence::first_link` meets its contract.
use mathlib.Core.Bool.{true, false}
use mathlib.Core.Path.{sym, ◌∙◌}
use Rattle.precedence.proofs.ChainLaws.{first_all, first_more, first_none, first_past}
use Rattle.precedence.proofs.first_link.Goals as goal

pub returns-then-long-eq0 : goal.returns-then-long-eq0
returns-then-long-eq0 c = first_none _ _ _ _ _ c.if-long-eq0.true

pub loop-j-preserved-then-lengths-j : goal.loop-j-preserved-then-lengths-j
loop-j-preserved-then-lengths-j c = first_past _ _ _ _ c.loop-j.j c.loop-j-test.true c.if-lengths-j.true ∙ c.loop-j.invariant

pub returns-then-bound : goal.returns-then-bound
returns-then-bound c =
    first_more _ _ _ _ c.loop-j.j c.loop-j-test.true c.if-long-eq0.false c.if-lengths-j.false true (sym c.bound.ensures ∙ c.if-bound.true) ∙ c.loop-j.invariant

pub loop-j-preserved : goal.loop-j-preserved
loop-j-preserved c =
    first_more _ _ _ _ c.loop-j.j c.loop-j-test.true c.if-long-eq0.false c.if-lengths-j.false false (sym c.bound.ensures ∙ c.if-bound.false) ∙ c.loop-j.invariant

pub returns : goal.returns
returns c = first_all _ _ _ _ c.loop-j.j c.loop-j-test.false ∙ c.loop-j.invariant
