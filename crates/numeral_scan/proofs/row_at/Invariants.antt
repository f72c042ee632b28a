use Rattle.numeral_scan.specs.Pieces.{RowAt}
use Rattle.numeral_scan.proofs.row_at.Given as goal

abbrev pub invariant-loop-i : goal.invariant-loop-i
invariant-loop-i l = RowAt l.text l.at l.n record { end = l.i; value = l.value }
