-- `blocks::end_of` meets its contract.
use mathlib.Core.Path.{◌∙◌}
use Rattle.blocks.proofs.CodeLaws.{end_none, end_some}
use Rattle.table.proofs.QuestionLaws.{name_field}
use Rattle.blocks.proofs.end_of.Goals as goal

pub returns-then-n-eq0 : goal.returns-then-n-eq0
returns-then-n-eq0 c = let a = c.args in end_none a.text.now a.records.now a.n c.if-n-eq0.true

pub returns : goal.returns
returns c =
    let a = c.args in
    c.skip_words.ensures ∙ end_some a.text.now a.records.now a.n c.if-n-eq0.false (c.field-name.ensures ∙ name_field a.records.now a.n) c.tail_words.ensures
