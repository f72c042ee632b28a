-- `plain::fill` meets its contract.
use Rattle.std.proofs.Common.{refl, sym, subst, ◌∙◌, arith}
use Rattle.plain.proofs.RealLaws.{fills_more, fills_none}
use Rattle.plain.specs.Plain.{Fills, unfilled}
use Rattle.word_scan.proofs.PassLaws.{line_most}
use Rattle.plain.proofs.fill.Goals as goal

pub loop-left-init : goal.loop-left-init
loop-left-init c = (fills_none c.args.text.now c.args.reals.now c.args.settings c.args.h.draft _, refl, c.requires, refl)

pub shape_of-reals-in_default : goal.shape_of-reals-in_default
shape_of-reals-in_default c = c.store.auto.reals ∙ c.loop-left.invariant.1

pub returns-in_default : goal.returns-in_default
returns-in_default c = subst (Fills c.args.text.now c.args.reals.now c.args.settings c.args.h.draft (unfilled c.args.h c.args.used) c.loop-left.f) (sym c.in_default.ensures) c.loop-left.invariant.0

pub overflow_add-f : goal.overflow_add-f
overflow_add-f c = omega (arith, c.loop-left.invariant.0.line_on, c.loop-left.invariant.2, c.in-Some.ensures.passes.lines_on, line_most c.args.text.now c.in-Some.x.next, c.well_formed.0)

pub overflow_add-f-in-loop-left : goal.overflow_add-f-in-loop-left
overflow_add-f-in-loop-left c = omega (arith, c.in-Some.ensures.fits, c.loop-left.invariant.1, c.well_formed.1.0)

pub loop-left-preserved : goal.loop-left-preserved
loop-left-preserved c =
    (fills_more c.args.text.now c.args.reals.now c.args.settings c.args.h.draft _ c.loop-left.f c.loop-left.reals c.loop-left.invariant.0 _ (omega arith) c.in-Some.x _ c.in-Some.ensures, c.store.auto.reals ∙ c.loop-left.invariant.1, c.loop-left.invariant.2, refl)

pub shape_of-reals : goal.shape_of-reals
shape_of-reals c = c.loop-left.invariant.1

pub returns : goal.returns
returns c = c.loop-left.invariant.0
