-- `type_names::packed` meets its contract.
use Rattle.std.proofs.Common.{arith}
use Rattle.type_names.proofs.PackLaws.{packed_fits, packed_more, packed_none}
use Rattle.type_names.proofs.packed.Goals as goal

pub loop-b-init : goal.loop-b-init
loop-b-init c = packed_none _ c.requires

pub overflow_mul-k : goal.overflow_mul-k
overflow_mul-k c = omega (arith, packed_fits _ c.requires _ _ c.loop-b.invariant c.loop-b-test.true)

pub loop-b-preserved : goal.loop-b-preserved
loop-b-preserved c = packed_more _ c.requires _ _ c.loop-b.invariant _ c.loop-b-test.true (omega (arith, c.type_inv.word c.loop-b.b-index)) c.from.ensures
