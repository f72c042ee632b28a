-- `comparison::next_line` meets its contract.
use mathlib.Core.List.{List}
use mathlib.Core.Path.{refl, ap, sym, ◌∙◌}
use Rattle.content.specs.Scene.{rows}
use Rattle.scene.specs.Told.{Told}
use Rattle.comparison.proofs.LineLaws.{answer_line, answer_none, fewer, lines_same}
use Rattle.comparison.specs.Next.{answer_of}
use Rattle.comparison.specs.NextLine.{first_line}
use Rattle.comparison.specs.Step.{Step, step_told}
use Rattle.comparison.specs.declared.Step.{Step as CodeStep}
use Rattle.std.specs.Prelude.{Some}
use Rattle.comparison.proofs.next_line.Goals as goal
use Rattle.comparison.proofs.next_line.Goals.{At-loop-p}

abbrev told : CodeStep → Step
told x = step_told (Some x)

-- the rows of both scenes, at the head of the loop
abbrev left_rows_lem : At-loop-p → List Told
left_rows_lem c =
    let a = c.args in
    rows a.left

abbrev right_rows_lem : At-loop-p → List Told
right_rows_lem c =
    let a = c.args in
    rows a.right

pub loop-p-init : goal.loop-p-init
loop-p-init c = refl

pub returns-in_err-p : goal.returns-in_err-p
returns-in_err-p c =
    let l = left_rows_lem (goal.at.returns-in_err-p c).At-loop-p in
    let r = right_rows_lem (goal.at.returns-in_err-p c).At-loop-p in
    ap answer_of c.from_residual.ensures ∙ answer_none l r _ c.in_err-p.ensures ∙ ap (first_line l r) (sym c.loop-p.invariant)

pub loop-p-smaller : goal.loop-p-smaller
loop-p-smaller c = fewer (left_rows_lem (goal.at.loop-p-smaller c).At-loop-p) (right_rows_lem (goal.at.loop-p-smaller c).At-loop-p) _ c.in-Same.p (sym (ap told c.in-Same.is) ∙ c.in_ok-p.ensures)

pub loop-p-preserved : goal.loop-p-preserved
loop-p-preserved c = c.loop-p.invariant ∙ lines_same (left_rows_lem (goal.at.loop-p-preserved c).At-loop-p) (right_rows_lem (goal.at.loop-p-preserved c).At-loop-p) _ c.in-Same.p (sym (ap told c.in-Same.is) ∙ c.in_ok-p.ensures)

pub returns-in-Line : goal.returns-in-Line
returns-in-Line c =
    let l = left_rows_lem (goal.at.returns-in-Line c).At-loop-p in
    let r = right_rows_lem (goal.at.returns-in-Line c).At-loop-p in
    answer_line l r _ _ _ _ (sym (ap told c.in-Line.is) ∙ c.in_ok-p.ensures) ∙ ap (first_line l r) (sym c.loop-p.invariant)
