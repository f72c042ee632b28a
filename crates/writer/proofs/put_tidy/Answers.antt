-- `writer::put_tidy` meets its contract.
use mathlib.Core.Path.{ap, sym, ◌∙◌}
use Rattle.fresh.specs.Fresh as fresh
use Rattle.writer.proofs.AnswerLaws.{tidy_left}
use Rattle.writer.proofs.put_tidy.Goals as goal

pub returns : goal.returns
returns c =
    let a = c.args in
    tidy_left a.mode a.text.now a.records.now a.reals.now a.out.now _ (sym (ap fresh.answer_of c.in_ok-count.was) ∙ c.compare.ensures) c.put_records.ensures c.put_length.ensures
