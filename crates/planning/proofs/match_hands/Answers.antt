-- `planning::match_hands` meets its contract.
use mathlib.Core.Path.{sym}
use Prim.Native.Nat.{◌/◌, ◌≤◌}
use native.Mathlib.Omega.{arith}
use lib.ListN.{length}
use lib.Seq.{length-take-le}
use Rattle.matching.specs.Matching.{match_of}
use Rattle.planning.proofs.RowsLaws.{both_tabled}
use Rattle.planning.proofs.match_hands.Goals as goal

pub slice_bounds-match_all-end-2 : goal.slice_bounds-match_all-end-2
slice_bounds-match_all-end-2 c =
    let a = c.args in
    let h : length a.right.records.now / 11 ≤ length a.others.now = omega arith in
    sym (length-take-le _ _ h)

pub returns : goal.returns
returns c =
    let a = c.args in
    let front = c.match_all in
    let rest = c.match_all-2 in
    both_tabled (match_of a.right.text.now a.right.records.now a.right.reals.now a.left.text.now a.left.records.now a.left.reals.now) (match_of a.left.text.now a.left.records.now a.left.reals.now a.right.text.now a.right.records.now a.right.reals.now) a.others.now front.new.matches rest.new.matches (length a.right.records.now / 11) (length a.left.records.now / 11) c.requires front.ensures rest.ensures
