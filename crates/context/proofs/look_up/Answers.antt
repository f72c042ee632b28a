-- `context::look_up` meets its contract.
use mathlib.Core.Path.{ap, ◌∙◌}
use Rattle.context.proofs.TableLaws.{looked_yes, looked_no}
use Rattle.index.specs.declared.Found.{Found}
use Rattle.context.proofs.look_up.Goals as goal

pub returns-then-is_looked_up : goal.returns-then-is_looked_up
returns-then-is_looked_up c =
    let yes = c.if-is_looked_up.true in
    let e = c.is_looked_up.ensures in
    record { number_value = ap (λ (f : Found). f.number) c.search.ensures ∙ looked_yes _ _ _ e yes; looked_value = ap (λ (f : Found). f.looked) c.search.ensures ∙ looked_yes _ _ _ e yes }

pub returns : goal.returns
returns c =
    let e = c.is_looked_up.ensures in
    record { number_value = looked_no _ _ _ e c.if-is_looked_up.false; looked_value = looked_no _ _ _ e c.if-is_looked_up.false }
