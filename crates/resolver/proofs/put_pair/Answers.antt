-- `resolver::put_pair` meets its contract.
use mathlib.Core.Path.{refl}
use Prim.Native.Nat.{◌-◌, ◌*◌}
use native.Mathlib.Omega.{arith}
use lib.ListN.{length-set}
use Rattle.resolver.proofs.StepLaws.{pair_stored}
use borrow.Author.Rules.{rules}
use Rattle.resolver.proofs.put_pair.Goals as goal

pub returns-then-n-eq0 : goal.returns-then-n-eq0
returns-then-n-eq0 c = record { same = refl; stands = λ z r. absurd (omega (arith, c.if-n-eq0.true)) }

pub returns-then-pairs-n : goal.returns-then-pairs-n
returns-then-pairs-n c = record { same = refl; stands = λ z r. absurd (omega (arith, c.if-pairs-n.true)) }

pub bounds-pairs-at-2 : goal.bounds-pairs-at-2
bounds-pairs-at-2 c = simp length-set (omega arith)

pub returns : goal.returns
returns c = let a = c.args in record { same = search rules; stands = λ z r. pair_stored a.pairs.now ((a.n - 1) * 2) a.foreground a.background }
