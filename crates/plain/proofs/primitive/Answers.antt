-- `plain::primitive` meets its contract.
use Rattle.std.proofs.Common.{◌+◌, sym, ◌∙◌, arith}
use borrow.Author.Tests.{leb-true}
use Rattle.word_scan.proofs.PassLaws.{line_most}
use Rattle.plain.proofs.HeadLaws.{begins_primitive}
use Rattle.plain.proofs.primitive.Goals as goal

pub overflow_add-result : goal.overflow_add-result
overflow_add-result c = omega (arith, c.requires, c.in_ok-n.ensures.word.passes.lines_on, line_most c.args.text.now c.in_ok-n.n.next, c.well_formed.0)

pub overflow_add-result-2 : goal.overflow_add-result-2
overflow_add-result-2 c = omega (arith, c.requires, c.in_ok-n.ensures.word.passes.lines_on, c.in_ok-c.ensures.lines_on, line_most c.args.text.now c.in_ok-c.c.next, c.well_formed.0)

pub overflow_add-result-3 : goal.overflow_add-result-3
overflow_add-result-3 c = omega (arith, c.requires, c.in_ok-n.ensures.word.lines_before, line_most c.args.text.now c.in_ok-n.n.place, c.well_formed.0)

pub returns : goal.returns
returns c = λ T X. begins_primitive c.args.text.now T X c.args.settings c.args.b c.args.link c.args.kind c.in_ok-n.n c.in_ok-c.c c.in_ok-n.ensures c.in_ok-c.ensures
    (sym c.strings_allowed.ensures ∙ c.if-not-strings_allowed.false) (sym c.reals_allowed.ensures ∙ c.if-not-reals_allowed.false)
    (leb-true (c.args.b.used + c.in_ok-c.c.value) c.args.settings.reals (sym c.fits.ensures ∙ c.if-not-fits.false)) _ _ _ c.narrow.ensures c.narrow-2.ensures c.first_real.ensures
