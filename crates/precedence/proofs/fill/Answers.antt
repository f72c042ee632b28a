-- `precedence::fill` meets its contract.
use mathlib.Core.Path.{◌≡◌, refl, ◌∙◌}
use native.Mathlib.Omega.{arith}
use lib.ListN.{length, length-set}
use Rattle.precedence.proofs.ChainLaws.{behind_low, filled_all, filled_last, filled_none, filled_one}
use Rattle.precedence.proofs.fill.Goals as goal
use Rattle.precedence.proofs.fill.Goals.{At-loop-k}

pub loop-k-init : goal.loop-k-init
loop-k-init c = (refl, omega arith, filled_last _ c.args.lengths.now (omega arith))

-- the table is as long as it was
sized : (c : At-loop-k) → length c.loop-k.lengths ≡ length c.args.lengths.now
sized c = c.loop-k.invariant.0 ∙ simp length-set

pub loop-k-preserved-then-behind-eq0 : goal.loop-k-preserved-then-behind-eq0
loop-k-preserved-then-behind-eq0 c =
    (simp length-set (sized (goal.at.loop-k-preserved-then-behind-eq0 c).At-loop-k), omega arith, filled_none _ _ _ _ _ c.loop-k.invariant.2 (omega arith) c.nearest-behind.ensures c.if-behind-eq0.true)

pub overflow_add-lengths : goal.overflow_add-lengths
overflow_add-lengths c =
    omega (arith, sized (goal.at.overflow_add-lengths c).At-loop-k, behind_low _ _ _ _ _ c.loop-k.invariant.2 (omega arith) c.nearest-behind.ensures)

pub loop-k-preserved : goal.loop-k-preserved
loop-k-preserved c =
    (simp length-set (sized (goal.at.loop-k-preserved c).At-loop-k), omega arith, filled_one _ _ _ _ _ c.loop-k.invariant.2 (omega arith) c.nearest-behind.ensures c.if-behind-eq0.false)

pub shape_of-lengths : goal.shape_of-lengths
shape_of-lengths c = sized (goal.at.shape_of-lengths c).At-loop-k

pub returns : goal.returns
returns c = filled_all _ _ _ _ c.loop-k.invariant.2 (omega arith) (omega arith)
