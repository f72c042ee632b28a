use lib.ListN.{drop}
use Rattle.joined_text.specs.JoinedText.{order_text}
use Rattle.lines.proofs.PutsLaws.{PutsUpTo}
use Rattle.joined_text.proofs.put_order.Given as goal

abbrev pub invariant-loop-n : goal.invariant-loop-n
invariant-loop-n l = PutsUpTo l.initial.out l.initial.end (order_text l.left l.left_records l.right l.right_records l.order) (order_text l.left l.left_records l.right l.right_records (drop l.n-index l.order)) l.end l.out
