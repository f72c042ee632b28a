-- `blocks::tail_words` meets its contract.
use mathlib.Core.Path.{sym, ◌∙◌}
use Rattle.blocks.proofs.CodeLaws.{tail_alias, tail_own}
use Rattle.table.proofs.QuestionLaws.{reals_field, strings_field, target_field}
use Rattle.blocks.proofs.tail_words.Goals as goal

pub returns-then-field-ne0 : goal.returns-then-field-ne0
returns-then-field-ne0 c =
    let a = c.args in
    tail_alias a.records.now a.n (λ z. c.if-field-ne0.true (c.field.ensures ∙ target_field a.records.now a.n ∙ z))

pub returns : goal.returns
returns c =
    let a = c.args in
    tail_own a.records.now a.n (sym (c.field.ensures ∙ target_field a.records.now a.n) ∙ c.if-field-ne0.false) (c.field-strings.ensures ∙ strings_field a.records.now a.n) (c.field-reals.ensures ∙ reals_field a.records.now a.n)
