-- `line_numbers::line_of` meets its contract.
use mathlib.Core.Path.{◌≡◌, ap, ◌∙◌}
use Prim.Native.Nat.{◌+◌, ◌-◌, min}
use native.Mathlib.Omega.{arith}
use lib.ListN.{drop, length-drop, length-take}
use Rattle.laws.specs.Bytes.{part}
use Rattle.line_numbers.specs.Lines.{line_from, passed}
use Rattle.scene.proofs.LineLaws.{newlines_most}
use Rattle.scene.specs.Record.{field_in, newlines}
use Rattle.line_numbers.proofs.line_of.Goals as goal
use Rattle.line_numbers.proofs.line_of.Goals.{After-line_ends-more}

-- the lines that end between the two names
counted : (c : After-line_ends-more) → let a = c.args in c.line_ends-more.result ≡ newlines (passed a.text.now a.records.now a.count a.place)
counted c =
    let a = c.args in
    let from = c.field-from.ensures in
    let cut : c.saturating_sub.result ≡ a.place - min c.field-from.result a.place = omega arith in
    c.line_ends-more.ensures ∙ ap newlines (c.part-passed.ensures ∙ (λ i. part a.text.now c.field-from.result (cut i)) ∙ (λ i. part a.text.now (from i) (a.place - min (from i) a.place)))

pub overflow_add-result : goal.overflow_add-result
overflow_add-result c =
    let from = field_in c.args.records.now c.args.count 3 in
    let size = c.args.place - min from c.args.place in
    omega (arith, c.line_before.ensures.upper_bound, counted (goal.at.overflow_add-result c).After-line_ends-more, newlines_most (part c.args.text.now from size), length-take size (drop from c.args.text.now), length-drop from c.args.text.now, c.well_formed.0.1)

pub returns : goal.returns
unfolding line_from
returns c = λ i. c.line_before.ensures.value i + counted (goal.at.returns c).After-line_ends-more i
