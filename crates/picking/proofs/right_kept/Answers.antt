-- `picking::right_kept` meets its contract.
use mathlib.Core.Path.{refl}
use Rattle.picking.proofs.PickingLaws.{kept_absent, kept_there}
use Rattle.picking.proofs.right_kept.Goals as goal

pub returns-then-other-eq0 : goal.returns-then-other-eq0
returns-then-other-eq0 c =
    let a = c.args in
    kept_absent a.right_base.now a.other a.base c.if-other-eq0.true _ refl

pub returns : goal.returns
returns c =
    let a = c.args in
    kept_there a.right_base.now a.other a.base c.if-other-eq0.false _ c.number_at.ensures _ c.is_equal.ensures
