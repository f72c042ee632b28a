-- `line_numbers::line_at` meets its contract.
use mathlib.Core.Path.{◌≡◌, ap, ◌∙◌}
use Prim.Native.Nat.{ℕ, ◌+◌}
use native.Mathlib.Numerals.{add-one}
use native.Mathlib.Omega.{arith}
use lib.ListN.{length-take, take}
use Rattle.scene.proofs.LineLaws.{newlines_most}
use Rattle.scene.specs.Record.{newlines}
use Rattle.line_numbers.proofs.line_at.Goals as goal
use Rattle.line_numbers.proofs.line_at.Goals.{After-line_ends}

counted : (c : After-line_ends) → let a = c.args in c.line_ends.result ≡ newlines (take a.place a.text.now)
counted c = c.line_ends.ensures ∙ ap newlines c.part.ensures

pub overflow_add-result : goal.overflow_add-result
overflow_add-result c =
    omega (arith, counted (goal.at.overflow_add-result c).After-line_ends, newlines_most (take c.args.place c.args.text.now), length-take c.args.place c.args.text.now, c.well_formed.0.1)

pub returns : goal.returns
returns c = ap (λ (n : ℕ). n + 1) (counted (goal.at.returns c).After-line_ends) ∙ add-one _
