-- `finish::name` meets its contract.
use mathlib.Core.Path.{◌∙◌, sym}
use Rattle.finish.proofs.QuestionLaws.{name_shown, refused_empty}
use Rattle.table.proofs.RefusalLaws.{refused_number, taken_number}
use Rattle.finish.proofs.name.Goals as goal

pub returns-in-Ok : goal.returns-in-Ok
returns-in-Ok c =
    let a = c.args in
    c.name_of.ensures ∙ name_shown a.text.now a.records.now a.count a.number (taken_number c.name_refusal.result _ _ c.in-Ok.is c.name_refusal.ensures)

pub returns-in-Err : goal.returns-in-Err
returns-in-Err c =
    let a = c.args in
    c.part.ensures ∙ sym (refused_empty a.text.now a.records.now a.count a.number (refused_number c.name_refusal.result _ _ c.in-Err.is c.name_refusal.ensures).1)
