-- `plain::store` meets its contract.
use Rattle.std.proofs.Common.{arith}
use Rattle.plain.proofs.RealLaws.{stores}
use Rattle.plain.proofs.store.Goals as goal

pub offset_bounds-reals-used : goal.offset_bounds-reals-used
offset_bounds-reals-used c = omega (arith, c.min.ensures, c.if-min-used.false, c.well_formed.1.0)

pub bounds-reals-used : goal.bounds-reals-used
bounds-reals-used c = omega (arith, c.min.ensures, c.if-min-used.false)

pub returns : goal.returns
returns c = stores c.args.text.now c.args.reals.now c.args.room c.args.d c.args.left c.args.used c.args.at c.in_ok-x.x c.in_ok-x.ensures c.breaks.ensures c.if-breaks.false (omega (arith, c.min.ensures, c.if-min-used.false)) (omega (arith, c.min.ensures, c.if-min-used.false))
