-- `mover::reals_in` meets its contract.
use mathlib.Core.Path.{◌≡◌, ap, sym, ◌∙◌}
use Prim.Native.Nat.{ℕ, min}
use Rattle.scene.specs.Record.{record_in}
use Rattle.table.proofs.QuestionLaws.{reals_field, target_field}
use Rattle.mover.proofs.RealsLaws.{of_alias, of_own}
use Rattle.mover.proofs.reals_in.Goals as goal
use Rattle.mover.proofs.reals_in.Goals.{Else-field-ne0}

pub returns-then-field-ne0 : goal.returns-then-field-ne0
returns-then-field-ne0 c =
    let a = c.args in
    of_alias a.direction a.text.now a.records.now a.n (λ z. c.if-field-ne0.true (c.field.ensures ∙ target_field a.records.now a.n ∙ z))

-- a record that is no alias
own : (c : Else-field-ne0) → let a = c.args in (record_in a.records.now a.n).target ≡ 0
own c = let a = c.args in sym (c.field.ensures ∙ target_field a.records.now a.n) ∙ c.if-field-ne0.false

pub returns-in-Kept : goal.returns-in-Kept
returns-in-Kept c =
    let a = c.args in
    let count_is = c.field-in-Kept.ensures ∙ reals_field a.records.now a.n in
    c.min.ensures
    ∙ ap (λ (k : ℕ). min k 4097) count_is
    ∙ of_own a.direction a.text.now a.records.now a.n (own (goal.at.returns-in-Kept c).Else-field-ne0) (sym c.in-Kept.is ∙ c.change_of.ensures)

pub returns-in-Added : goal.returns-in-Added
returns-in-Added c =
    let a = c.args in
    of_own a.direction a.text.now a.records.now a.n (own (goal.at.returns-in-Added c).Else-field-ne0) (sym c.in-Added.is ∙ c.change_of.ensures)

pub returns-in-Dropped : goal.returns-in-Dropped
returns-in-Dropped c =
    let a = c.args in
    of_own a.direction a.text.now a.records.now a.n (own (goal.at.returns-in-Dropped c).Else-field-ne0) (sym c.in-Dropped.is ∙ c.change_of.ensures)
