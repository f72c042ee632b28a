use Prim.Native.Nat.{◌-◌, ◌≤◌}
use Rattle.resolver.proofs.StepLaws.{UpTo}
use Rattle.resolver.proofs.resolve.Given as goal

abbrev pub invariant-loop-n : goal.invariant-loop-n
invariant-loop-n l = (l.n ≤ l.count) × UpTo l.text l.records l.index l.count l.initial.pairs l.n l.end l.pairs

abbrev pub decreases-loop-n : goal.decreases-loop-n
decreases-loop-n l = l.count - l.n
