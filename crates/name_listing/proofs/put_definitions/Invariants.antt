use Prim.Native.Nat.{◌-◌}
use Rattle.lines.proofs.PutsLaws.{PutsUpTo}
use Rattle.name_listing.specs.NameLine.{definition_texts}
use Rattle.name_listing.proofs.put_definitions.Given as goal

abbrev pub invariant-loop-done : goal.invariant-loop-done
invariant-loop-done l = PutsUpTo l.initial.out l.initial.end (definition_texts l.records l.count l.count l.first) (definition_texts l.records l.count (l.count - l._done) l.d) l.end l.out
