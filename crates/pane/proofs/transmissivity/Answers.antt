-- `pane::transmissivity` meets its contract.
use mathlib.Core.Bool.{not, cond}
use mathlib.Core.Path.{◌≡◌}
use lib.Ieee.{of_bits}
use Rattle.pane.specs.Transmissivity.{refused, transmissivity, transmissivity_of}
use Rattle.pane.proofs.transmissivity.Goals as goal
use Rattle.pane.proofs.transmissivity.Goals.{After-is_finite-2}

-- the definition, by what the calls gave
by-calls : (c : After-is_finite-2) →
    let t = c.args.t in
    transmissivity_of t ≡ cond (not c.is_finite-2.result) (refused 20) (transmissivity c.from_root-tn.result)
unfolding transmissivity_of of_bits
by-calls c =
    simp (← c.is_finite.ensures, c.if-not-is_finite.false-raw, c.if-not-t.false-raw, ← c.under_root.ensures, ← c.root.ensures, ← c.step.ensures, ← c.from_root-tn.ensures, ← c.is_finite-2.ensures)

pub returns-then-not-is_finite : goal.returns-then-not-is_finite
unfolding transmissivity_of
returns-then-not-is_finite c = simp (← c.is_finite.ensures, c.if-not-is_finite.true-raw)

pub returns-then-not-t : goal.returns-then-not-t
unfolding transmissivity_of of_bits
returns-then-not-t c = simp (← c.is_finite.ensures, c.if-not-is_finite.false-raw, c.if-not-t.true-raw)

pub returns-then-not-is_finite-2 : goal.returns-then-not-is_finite-2
returns-then-not-is_finite-2 c = simp (by-calls (goal.at.returns-then-not-is_finite-2 c).After-is_finite-2, c.if-not-is_finite-2.true-raw)

pub returns : goal.returns
returns c = simp (by-calls (goal.at.returns c).After-is_finite-2, c.if-not-is_finite-2.false-raw)
