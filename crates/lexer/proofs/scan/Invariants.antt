use Rattle.std.proofs.Common.{◌≡◌, Bool, ℕ}
use Rattle.laws.specs.Runs.{past}
use Rattle.lexer.proofs.scan.Given as goal

abbrev pub invariant-loop-i : goal.invariant-loop-i
invariant-loop-i g l = (test : ℕ → Bool) → ((b : ℕ) (r : Bool) → goal.F-post g l.passes b r → r ≡ test b) → past test l.text l.i ≡ past test l.text l.at
