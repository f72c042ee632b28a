-- `validation::loop_refusal` meets its contract.
use mathlib.Core.Path.{◌≡◌, sym, ◌∙◌}
use Prim.Native.Nat.{ℕ, ◌+◌}
use native.Mathlib.Omega.{arith}
use lib.ListN.{length, length-take, replicate, take}
use Rattle.validation.proofs.ValidateLaws.{loop_found, no_loop}
use Rattle.validation.proofs.loop_refusal.Goals as goal
use Rattle.validation.proofs.loop_refusal.Goals.{After-min-size}

-- the marks lent on
size : (c : After-min-size) → length {A = ℕ} (take (c.min-size.result + 1) (replicate 1025 0)) ≡ c.min-size.result + 1
size c = length-take (c.min-size.result + 1) (replicate 1025 0) ∙ omega (arith, c.min-size.ensures)

pub slice_bounds-first_loop-end : goal.slice_bounds-first_loop-end
slice_bounds-first_loop-end c = sym (size (goal.at.slice_bounds-first_loop-end c).After-min-size)

pub returns-then-n-eq0 : goal.returns-then-n-eq0
returns-then-n-eq0 c = no_loop _ _ _ c.min-size.ensures (size (goal.at.returns-then-n-eq0 c).After-min-size) c.first_loop-n.ensures.finds c.if-n-eq0.true

pub returns : goal.returns
returns c = loop_found _ _ _ c.min-size.ensures (size (goal.at.returns c).After-min-size) c.first_loop-n.ensures.finds c.if-n-eq0.false c.field.ensures
