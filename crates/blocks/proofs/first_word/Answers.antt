-- `blocks::first_word` meets its contract: the first word from the present place on, where no blank stands, is the one from `at` on.
use mathlib.Core.Path.{ap, ◌∙◌}
use Prim.Native.Nat.{◌-◌}
use native.Mathlib.Omega.{arith}
use Rattle.blocks.proofs.WordLaws.{behind_blanks, comment_long, first_blanks, first_comment, first_end, first_here}
use Rattle.laws.proofs.RunLaws.{past_least}
use Rattle.lexer.specs.Class.{is_blank}
use Rattle.rearrangement.specs.Layout.{first_word}
use Rattle.blocks.proofs.first_word.Goals as goal

pub loop-place-init : goal.loop-place-init
loop-place-init c =
    let a = c.args in
    let t = a.text.now in
    (ap (first_word t) c.skip_blanks-place.ensures ∙ first_blanks t a.at, behind_blanks t a.at c.skip_blanks-place.ensures)

pub returns-then-text-place-ne35 : goal.returns-then-text-place-ne35
returns-then-text-place-ne35 c =
    let l = c.loop-place in
    let h = c.loop-place-test.true in
    first_here c.args.text.now l.place h (l.invariant.1 h) c.if-text-place-ne35.true ∙ l.invariant.0

pub loop-place-smaller : goal.loop-place-smaller
loop-place-smaller c =
    let t = c.args.text.now in
    let l = c.loop-place in
    omega (arith, past_least is_blank t c.line_end.result, comment_long t l.place c.loop-place-test.true c.if-text-place-ne35.false, c.line_end.ensures, c.skip_blanks-place-in-loop-place.ensures)

pub loop-place-preserved : goal.loop-place-preserved
loop-place-preserved c =
    let t = c.args.text.now in
    let l = c.loop-place in (
      ap (first_word t) c.skip_blanks-place-in-loop-place.ensures
          ∙ first_blanks t _
          ∙ ap (first_word t) c.line_end.ensures
          ∙ first_comment t l.place c.loop-place-test.true c.if-text-place-ne35.false
          ∙ l.invariant.0,
      behind_blanks t _ c.skip_blanks-place-in-loop-place.ensures,
    )

pub returns : goal.returns
returns c = first_end c.args.text.now c.loop-place.place c.loop-place-test.false ∙ c.loop-place.invariant.0
