-- `line_numbers::line_ends` meets its contract.
use mathlib.Core.Path.{◌≡◌, refl, ap, sym, ◌∙◌}
use Prim.Native.Nat.{ℕ, suc, ◌+◌}
use native.Mathlib.Numerals.{add-one}
use native.Mathlib.Omega.{arith}
use lib.ListN.{take, length-take}
use lib.Seq.{take_all}
use Rattle.scene.proofs.LineLaws.{newlines_more, newlines_most}
use Rattle.scene.specs.Record.{newlines}
use Rattle.line_numbers.proofs.line_ends.Goals as goal
use Rattle.line_numbers.proofs.line_ends.Goals.{After-ends_line-lines}

pub loop-b-init : goal.loop-b-init
unfolding newlines
loop-b-init c = refl

-- a turn counts one byte
counted : (c : After-ends_line-lines) → c.loop-b.lines + c.ends_line-lines.result ≡ newlines (take (suc c.loop-b.b-index) c.args.text.now)
counted c = (λ j. c.loop-b.invariant j + c.ends_line-lines.ensures j) ∙ newlines_more c.args.text.now c.loop-b.b-index (omega arith)

pub overflow_add-lines : goal.overflow_add-lines
overflow_add-lines c =
    let a = (goal.at.overflow_add-lines c).After-ends_line-lines in
    omega (arith, counted a, newlines_most (take (suc a.loop-b.b-index) a.args.text.now), length-take (suc a.loop-b.b-index) a.args.text.now)

pub loop-b-preserved : goal.loop-b-preserved
loop-b-preserved c =
    let a = (goal.at.loop-b-preserved c).After-ends_line-lines in
    counted a ∙ ap (λ (n : ℕ). newlines (take n a.args.text.now)) (sym (add-one a.loop-b.b-index))

pub returns : goal.returns
returns c = c.loop-b.invariant ∙ ap newlines (take_all c.loop-b.b-index c.args.text.now (omega arith))
