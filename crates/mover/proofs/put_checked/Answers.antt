-- `mover::put_checked` meets its contract.
use mathlib.Core.Path.{ap, sym, ◌∙◌}
use Rattle.fresh.specs.Fresh as fresh
use Rattle.mover.proofs.AnswerLaws.{moves_same}
use Rattle.mover.proofs.put_checked.Goals as goal

pub returns : goal.returns
returns c =
    let a = c.args in
    moves_same a.mode a.direction a.text.now a.records.now a.reals.now a.out.now c.min-room.result _ c.min-room.ensures c.put_moved.ensures (sym (ap fresh.answer_of c.in_ok-count.was) ∙ c.compare.ensures)
