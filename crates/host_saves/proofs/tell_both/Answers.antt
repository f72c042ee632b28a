-- `host_saves::tell_both` meets its contract.
use mathlib.Core.List.{[], ◌∷◌}
use mathlib.Core.Path.{refl}
use Rattle.host_saves.proofs.HostLaws.{both_told}
use Rattle.host_saves.proofs.tell_both.Goals as goal

pub returns-in-Ok : goal.returns-in-Ok
returns-in-Ok c =
    both_told _ _ c.mode_of.ensures _ _ _ _ _ _ _ _ _ _ _ _ refl (rw c.in-Ok.is at c.read_both.ensures)

pub returns-in-Err : goal.returns-in-Err
returns-in-Err c =
    rw c.number.ensures (both_told _ _ c.mode_of.ensures _ _ _ _ _ _ _ _ _ _ _ _ (λ i. c.side_number.ensures i ∷ c.in-Err.refused.refusal.place ∷ 0 ∷ 0 ∷ 0 ∷ 0 ∷ []) (rw c.in-Err.is at c.read_both.ensures))
