-- `index::hash` meets its contract.
use mathlib.Core.Path.{refl, sym, ◌∙◌}
use native.Mathlib.Omega.{arith}
use Rattle.index.proofs.SearchLaws.{hash_end, hashed_step}
use Rattle.index.proofs.hash.Goals as goal

pub loop-i-init : goal.loop-i-init
loop-i-init c = c.by_fours-h.ensures

pub overflow_mul-h : goal.overflow_mul-h
overflow_mul-h c = omega (arith, c.loop-i.invariant.small)

pub loop-i-preserved : goal.loop-i-preserved
loop-i-preserved c = hashed_step _ c.loop-i.h c.loop-i.i _ c.loop-i-test.true c.loop-i.invariant refl

pub returns : goal.returns
returns c = sym (hash_end _ _ _ c.loop-i-test.false) ∙ c.loop-i.invariant.rest
