-- `reader::without_index` meets its contract.
use mathlib.Core.Path.{ap}
use Prim.Native.Nat.{ℕ}
use Rattle.reader.specs.Answer.{Refused}
use Rattle.reader.proofs.without_index.Goals as goal

pub returns : goal.returns
returns c = ap (λ (n : ℕ). Refused n 0) c.refused_short.ensures
