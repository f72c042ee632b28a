-- `host_scenes::tell_finish` meets its contract.
use mathlib.Core.List.{[], ◌∷◌}
use mathlib.Core.Path.{sym, ap, ◌∙◌}
use Rattle.finish.specs.Answer.{finish_answer}
use Rattle.finish.specs.Finish.{Finish}
use Rattle.finish.specs.Walk.{numbers_of}
use Rattle.host_scenes.proofs.tell_finish.Goals as goal

pub returns-in-Ok : goal.returns-in-Ok
returns-in-Ok c =
    let f = ap finish_answer (sym c.in-Ok.is) ∙ c.finish_of.ensures in
    record { value = ap (λ (z : Finish). (numbers_of z).reason) f; answer_after = ap (λ (z : Finish). (numbers_of z).primitive ∷ (numbers_of z).links ∷ []) f }

pub returns-in-Err : goal.returns-in-Err
returns-in-Err c =
    let f = ap finish_answer (sym c.in-Err.is) ∙ c.finish_of.ensures in
    record { value = c.number.ensures ∙ ap (λ (z : Finish). (numbers_of z).reason) f; answer_after = ap (λ (z : Finish). (numbers_of z).primitive ∷ (numbers_of z).links ∷ []) f }
