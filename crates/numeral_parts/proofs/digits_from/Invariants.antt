use Rattle.std.proofs.Common.{◌≡◌, ◌≤◌, drop}
use Rattle.numeral_parts.specs.Saturated.{limit, saturated}
use Rattle.numeral_parts.proofs.digits_from.Given as goal

abbrev pub invariant-loop-b : goal.invariant-loop-b
invariant-loop-b l = (l.m ≤ limit) × (saturated l.m (drop l.b-index l.word) ≡ saturated l.n l.word)
