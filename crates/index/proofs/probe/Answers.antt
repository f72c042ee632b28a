-- `index::probe` meets its contract. The turn's test is left to the tactics, so that an answer names nothing of how it is written.
use native.Mathlib.Omega.{arith}
use Rattle.std.proofs.lemmas.Grind.{common_steps}
use Rattle.index.proofs.SearchLaws.{at_first, at_next}
use Rattle.index.proofs.probe.Goals as goal

pub loop-passed-init : goal.loop-passed-init
loop-passed-init c = at_first _ _ _ _ c.hash-entry.ensures

pub loop-passed-preserved : goal.loop-passed-preserved
loop-passed-preserved c = at_next _ _ _ _ _ c.loop-passed-test.true c.loop-passed.invariant (grind (arith, common_steps))
