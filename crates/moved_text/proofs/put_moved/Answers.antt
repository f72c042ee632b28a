-- `moved_text::put_moved` meets its contract.
use mathlib.Core.Path.{ap, sym, ◌∙◌}
use Rattle.lines.proofs.PutsLaws.{puts_as}
use Rattle.moved_text.specs.MovedText.{row_by}
use Rattle.moved_text.specs.declared.Change.{Change}
use Rattle.moved_text.proofs.put_moved.Goals as goal

pub returns-in-Kept : goal.returns-in-Kept
returns-in-Kept c =
    let a = c.args in
    puts_as _ (ap (λ (x : Change). row_by x a.text.now a.records.now a.n) (sym c.in-Kept.is ∙ c.change_of.ensures)) c.put_record.ensures

pub returns-in-Added : goal.returns-in-Added
returns-in-Added c =
    let a = c.args in
    puts_as _ (ap (λ (x : Change). row_by x a.text.now a.records.now a.n) (sym c.in-Added.is ∙ c.change_of.ensures)) c.put_glass.ensures

pub returns-in-Dropped : goal.returns-in-Dropped
returns-in-Dropped c =
    let a = c.args in
    puts_as _ (ap (λ (x : Change). row_by x a.text.now a.records.now a.n) (sym c.in-Dropped.is ∙ c.change_of.ensures)) c.put_glass-in-Dropped.ensures
