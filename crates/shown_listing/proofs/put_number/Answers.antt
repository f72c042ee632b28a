-- `shown_listing::put_number` meets its contract.
use Rattle.shown_listing.proofs.JoinedLaws.{label_later}
use native.Mathlib.Omega.{arith}
use Rattle.shown_listing.proofs.put_number.Goals as goal

pub returns-then-k-eq0 : goal.returns-then-k-eq0
returns-then-k-eq0 c = record { out_after = rw c.if-k-eq0.true c.put_decimal.ensures.out_after; value = rw c.if-k-eq0.true c.put_decimal.ensures.value }

pub returns : goal.returns
returns c =
    let k = c.args.k in
    record { out_after = rw (label_later k (omega arith)) c.put_field.ensures.out_after; value = rw (label_later k (omega arith)) c.put_field.ensures.value }
