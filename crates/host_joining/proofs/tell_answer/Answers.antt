-- `host_joining::tell_answer` meets its contract.
use mathlib.Core.List.{[], ◌∷◌}
use mathlib.Core.Path.{ap, sym, ◌∙◌}
use Rattle.std.specs.Prelude.{Result}
use Rattle.join_answer.specs.Answer.{answer_of, reason_of, values_of}
use Rattle.join_answer.specs.declared.Joined.{Joined}
use Rattle.joining.specs.declared.SceneRefusal.{SceneRefusal}
use Rattle.host_joining.proofs.tell_answer.Goals as goal

pub returns-in-Ok : goal.returns-in-Ok
returns-in-Ok c =
    let e = sym c.in-Ok.is in
    record { value = ap (λ (w : Result Joined SceneRefusal). reason_of (answer_of w)) e; answer_after = ap (λ (w : Result Joined SceneRefusal). values_of (answer_of w)) e }

pub returns-in-Err : goal.returns-in-Err
returns-in-Err c =
    let e = sym c.in-Err.is in
    record {
      value = c.number.ensures ∙ ap (λ (w : Result Joined SceneRefusal). reason_of (answer_of w)) e;
      answer_after = (λ i. c.scene_number.ensures i ∷ c.in-Err.why.refusal.place ∷ 0 ∷ 0 ∷ 0 ∷ []) ∙ ap (λ (w : Result Joined SceneRefusal). values_of (answer_of w)) e;
    }
