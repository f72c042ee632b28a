-- `planning::pick_others` meets its contract.
use mathlib.Core.Path.{sym}
use Prim.Native.Nat.{◌≤◌}
use native.Mathlib.Omega.{arith}
use lib.ListN.{length}
use lib.Seq.{length-take-le}
use Rattle.planning.proofs.RowsLaws.{rest_picks}
use Rattle.planning.proofs.pick_others.Goals as goal

pub slice_bounds-pick-end-2 : goal.slice_bounds-pick-end-2
slice_bounds-pick-end-2 c =
    let a = c.args in
    let h : a.split ≤ length a.others.now = omega arith in
    sym (length-take-le _ _ h)

pub returns : goal.returns
returns c =
    let a = c.args in
    rest_picks a.split a.others.now a.left_base.now a.right_base.now _ _ _ c.pick.ensures
