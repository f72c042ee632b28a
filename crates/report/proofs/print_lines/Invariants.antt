use Rattle.std.proofs.Common.{length}
use Rattle.ordered.specs.Lent.{lent}
use Rattle.ordered.specs.Lines.{lines_from}
use Rattle.report.proofs.print_lines.Given as goal

-- each line that is handed out leaves fewer
abbrev pub decreases-loop-next : goal.decreases-loop-next
decreases-loop-next g l = length (lines_from (lent l.left) (lent l.right) l.from)
