-- `edges::between_ends` meets its contract.
use mathlib.Core.Path.{◌∙◌}
use Rattle.edges.specs.Crossing.{between}
use Rattle.edges.proofs.between_ends.Goals as goal

pub returns-then-second_of-h : goal.returns-then-second_of-h
unfolding between
returns-then-second_of-h c =
    let at-second-of = c.second_of-h in
    let at-second-of2 = c.second_of in
    let at-second-of3 = c.second_of-2 in
    let at-if1 = c.if-second_of-h in
    let at-worked-out = c.worked_out in
    at-worked-out.ensures ∙ simp (← at-second-of.ensures, ← at-second-of2.ensures, ← at-second-of3.ensures, at-if1.true)

pub returns : goal.returns
unfolding between
returns c =
    let at-second-of = c.second_of-h in
    let at-second-of2 = c.second_of in
    let at-second-of3 = c.second_of-2 in
    let at-if1 = c.if-second_of-h in
    simp (← at-second-of.ensures, ← at-second-of2.ensures, ← at-second-of3.ensures, at-if1.false)
