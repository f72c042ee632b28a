-- `sorter::put_checked` meets its contract.
use mathlib.Core.Path.{ap, sym, ◌∙◌}
use Rattle.fresh.specs.Fresh as fresh
use Rattle.sorter.proofs.AnswerLaws.{sorts_same}
use Rattle.sorter.proofs.put_checked.Goals as goal

pub returns : goal.returns
returns c =
    let a = c.args in
    sorts_same a.mode a.text.now a.records.now a.reals.now a.out.now _ c.put_sorted.ensures (sym (ap fresh.answer_of c.in_ok-count.was) ∙ c.compare.ensures)
