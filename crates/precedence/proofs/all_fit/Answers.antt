-- `precedence::all_fit` meets its contract.
use Rattle.precedence.proofs.AnswerLaws.{fits_all, fits_more, fits_none, fits_not}
use borrow.Author.Rules.{rules}
use Rattle.precedence.proofs.all_fit.Goals as goal

pub loop-n-init : goal.loop-n-init
loop-n-init c = let a = c.args in (search rules, fits_none a.text.now a.records.now)

pub returns-then-not-row_fits : goal.returns-then-not-row_fits
returns-then-not-row_fits c =
    let l = c.loop-n in
    fits_not _ _ l.n _ l.invariant.1 c.row_fits.ensures _ c.if-not-row_fits.true-raw c.loop-n-test.true

pub loop-n-preserved : goal.loop-n-preserved
loop-n-preserved c =
    let l = c.loop-n in
    (search rules, fits_more _ _ l.n _ l.invariant.1 c.row_fits.ensures c.if-not-row_fits.false-raw)

pub returns : goal.returns
returns c = fits_all _ _ c.loop-n.n _ c.loop-n.invariant.1 c.loop-n.invariant.0 c.loop-n-test.false
