-- `shown_listing::put_list` meets its contract.
use mathlib.Core.Path.{refl}
use native.Mathlib.Omega.{arith}
use Rattle.shown_listing.proofs.JoinedLaws.{underway_all, underway_length, underway_more}
use Rattle.shown_listing.proofs.put_list.Goals as goal

pub loop-k-init : goal.loop-k-init
loop-k-init c = record { text = refl; place = refl }

pub loop-k-preserved : goal.loop-k-preserved
loop-k-preserved c =
    underway_more c.loop-k.invariant c.loop-k-test.true c.put_number-end.ensures.out_after c.put_number-end.ensures.value

pub shape_of-out : goal.shape_of-out
shape_of-out c = underway_length c.loop-k.invariant

pub returns : goal.returns
returns c = let s = underway_all c.loop-k.invariant (omega arith) in record { out_after = s.text; value = s.end }
