use Rattle.type_names.proofs.PackLaws.{PackedTo}
use Rattle.type_names.proofs.packed.Given as goal

abbrev pub invariant-loop-b : goal.invariant-loop-b
invariant-loop-b l = PackedTo l.word l.k l.b-index
