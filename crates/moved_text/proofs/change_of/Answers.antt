-- `moved_text::change_of` meets its contract.
use mathlib.Core.Bool.{◌&&◌}
use mathlib.Core.Path.{◌≡◌, sym, ◌∙◌}
use lib.Dec.{eqb}
use Rattle.scene.specs.Record.{record_in}
use Rattle.table.proofs.QuestionLaws.{reals_field, target_field, type_field}
use Rattle.moved_text.proofs.ChangeLaws.{back_other, back_spelled, forth_other, forth_three, of_alias, of_other}
use Rattle.moved_text.specs.MovedText.{spelled_at}
use Rattle.moved_text.proofs.change_of.Goals as goal
use Rattle.moved_text.proofs.change_of.Goals.{After-field-reals, After-is_spelled, Else-field-ne-GLASS, Else-field-ne0}

pub returns-then-field-ne0 : goal.returns-then-field-ne0
returns-then-field-ne0 c =
    let a = c.args in
    of_alias a.direction a.text.now a.records.now a.n (λ z. c.if-field-ne0.true (c.field.ensures ∙ target_field a.records.now a.n ∙ z))

-- a record that is no alias
own : (c : Else-field-ne0) → let a = c.args in (record_in a.records.now a.n).target ≡ 0
own c = let a = c.args in sym (c.field.ensures ∙ target_field a.records.now a.n) ∙ c.if-field-ne0.false

pub returns-then-field-ne-GLASS : goal.returns-then-field-ne-GLASS
returns-then-field-ne-GLASS c =
    let a = c.args in
    of_other a.direction a.text.now a.records.now a.n (own (goal.at.returns-then-field-ne-GLASS c).Else-field-ne0) (λ z. c.if-field-ne-GLASS.true (c.field-2.ensures ∙ type_field a.records.now a.n ∙ z))

-- glass, and how many reals it has
is-glass : (c : Else-field-ne-GLASS) → let a = c.args in (record_in a.records.now a.n).type ≡ 23
is-glass c = let a = c.args in sym (c.field-2.ensures ∙ type_field a.records.now a.n) ∙ c.if-field-ne-GLASS.false

reals_are : (c : After-field-reals) → let a = c.args in c.field-reals.result ≡ (record_in a.records.now a.n).reals
reals_are c = let a = c.args in c.field-reals.ensures ∙ reals_field a.records.now a.n

pub returns-then-reals-eq3 : goal.returns-then-reals-eq3
returns-then-reals-eq3 c =
    let a = c.args in
    forth_three a.direction a.text.now a.records.now a.n (own (goal.at.returns-then-reals-eq3 c).Else-field-ne0) (is-glass (goal.at.returns-then-reals-eq3 c).Else-field-ne-GLASS) c.in-Forth.is (sym (reals_are (goal.at.returns-then-reals-eq3 c).After-field-reals) ∙ c.if-reals-eq3.true)

-- the code's test, and the definition's
test_is : (c : After-is_spelled) → let a = c.args in (eqb c.field-reals.result 4 && c.is_spelled.result) ≡ (eqb (record_in a.records.now a.n).reals 4 && spelled_at a.text.now a.records.now a.n)
test_is c = λ i. eqb ((c.field-reals.ensures ∙ reals_field c.args.records.now c.args.n) i) 4 && c.is_spelled.ensures i

pub returns-then-reals-is_spelled : goal.returns-then-reals-is_spelled
returns-then-reals-is_spelled c =
    let a = c.args in
    back_spelled a.direction a.text.now a.records.now a.n (own (goal.at.returns-then-reals-is_spelled c).Else-field-ne0) (is-glass (goal.at.returns-then-reals-is_spelled c).Else-field-ne-GLASS) c.in-Back.is (sym (test_is (goal.at.returns-then-reals-is_spelled c).After-is_spelled) ∙ c.if-reals-is_spelled.true)

pub returns-else-reals-eq3 : goal.returns-else-reals-eq3
returns-else-reals-eq3 c =
    let a = c.args in
    forth_other a.direction a.text.now a.records.now a.n (own (goal.at.returns-else-reals-eq3 c).Else-field-ne0) (is-glass (goal.at.returns-else-reals-eq3 c).Else-field-ne-GLASS) c.in-Forth.is (λ z. c.if-reals-eq3.false (reals_are (goal.at.returns-else-reals-eq3 c).After-field-reals ∙ z))

pub returns-else-reals-is_spelled : goal.returns-else-reals-is_spelled
returns-else-reals-is_spelled c =
    let a = c.args in
    back_other a.direction a.text.now a.records.now a.n (own (goal.at.returns-else-reals-is_spelled c).Else-field-ne0) (is-glass (goal.at.returns-else-reals-is_spelled c).Else-field-ne-GLASS) c.in-Back.is (sym (test_is (goal.at.returns-else-reals-is_spelled c).After-is_spelled) ∙ c.if-reals-is_spelled.false)
