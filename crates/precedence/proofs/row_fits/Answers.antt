-- `precedence::row_fits_lem` meets its contract.
use Rattle.precedence.proofs.AnswerLaws.{row_fits_is}
use Rattle.precedence.proofs.row_fits.Goals as goal

pub returns : goal.returns
returns c =
    let a = c.args in
    row_fits_is a.text.now a.records.now a.n _ _ _ _ c.field-modifier.ensures c.field-target.ensures c.field-place.ensures c.field-len.ensures
