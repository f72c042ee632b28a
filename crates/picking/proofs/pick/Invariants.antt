use Rattle.picking.proofs.PickingLaws.{Picking}
use Rattle.picking.specs.Picking.{mark_at}
use Rattle.picking.proofs.pick.Given as goal

abbrev pub invariant-loop-i : goal.invariant-loop-i
invariant-loop-i l = Picking (mark_at l.left_right l.left_base l.right_left l.right_base) l.initial.marks l.marks l.count l.i
