-- `host_scenes::tell_name` meets its contract.
use mathlib.Core.Path.{refl, sym, ◌∙◌}
use Rattle.host_scenes.proofs.NameLaws.{part_refused, part_shown}
use Rattle.scene.specs.Record.{field_in, record_in}
use Rattle.table.proofs.RefusalLaws.{refused_number, taken_number}
use mathlib.Core.List.{[], ◌∷◌}
use Rattle.host_scenes.proofs.tell_name.Goals as goal

pub returns-in-Ok : goal.returns-in-Ok
unfolding field_in record_in
returns-in-Ok c =
    let a = c.args in
    let e = taken_number c.name_refusal.result _ _ c.in-Ok.is c.name_refusal.ensures in
    record { value = sym e; answer_after = (λ j. c.field-place.ensures j ∷ c.field-len.ensures j ∷ []) ∙ part_shown _ _ _ _ 0 (sym e) refl }

pub returns-in-Err : goal.returns-in-Err
returns-in-Err c =
    let a = c.args in
    let known = refused_number c.name_refusal.result c.in-Err.reason _ c.in-Err.is c.name_refusal.ensures in
    record { value = c.number.ensures ∙ known.0; answer_after = part_refused _ _ _ _ _ known.0 (λ z. known.1 (sym known.0 ∙ z)) }
