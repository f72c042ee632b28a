-- `host_lines::values_of` meets its contract.
use mathlib.Core.List.{[], ◌∷◌}
use mathlib.Core.Path.{sym}
use Rattle.comparison.specs.Answer.{side_of, number_of}
use Rattle.host_lines.proofs.values_of.Goals as goal

pub returns-in-Left : goal.returns-in-Left
returns-in-Left c =
    let p = sym c.in-Left.is in
    λ i. side_of (p i) ∷ number_of (p i) ∷ c.args.line.nth ∷ c.number-state.ensures i ∷ []

pub returns-in-Right : goal.returns-in-Right
returns-in-Right c =
    let p = sym c.in-Right.is in
    λ i. side_of (p i) ∷ number_of (p i) ∷ c.args.line.nth ∷ c.number-state.ensures i ∷ []
