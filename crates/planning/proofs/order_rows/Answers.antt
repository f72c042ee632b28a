-- `planning::order_rows` meets its contract.
use mathlib.Core.Path.{◌≡◌, sym, ◌∙◌}
use Prim.Native.Nat.{◌+◌, ◌/◌, ◌≤◌}
use native.Mathlib.Omega.{arith}
use lib.ListN.{length, replicate}
use lib.Seq.{length-take-le}
use Rattle.join_meaning.specs.Rows.{row_count, row_mark}
use Rattle.laws.proofs.ListLaws.{front_within}
use Rattle.matching.specs.Matching.{match_of}
use Rattle.picking.specs.Picking.{Picks}
use Rattle.planning.proofs.RowsLaws.{Counted, count_few, counted, front_has, marks_front, others_front, others_length, rows_clash, rows_made, rows_picked, rows_stuck, tabled_front}
use Rattle.planning.proofs.order_rows.Goals as goal
use Rattle.planning.proofs.order_rows.Goals.{After-match_all, After-match_all-2, After-match_hands, After-pick_others, In-Some}

pub slice_bounds-match_hands-end : goal.slice_bounds-match_hands-end
slice_bounds-match_hands-end c =
    let a = c.args in
    let h : length a.right.records.now / 11 + length a.left.records.now / 11 ≤ 2048 = omega (arith, c.requires.lefts, c.requires.rights) in
    sym (length-take-le (length a.right.records.now / 11 + length a.left.records.now / 11) (replicate 2048 0) h)

pub match_hands-requires : goal.match_hands-requires
match_hands-requires c =
    let a = c.args in
    let h : length a.right.records.now / 11 + length a.left.records.now / 11 ≤ 2048 = omega (arith, c.requires.lefts, c.requires.rights) in
    length-take-le (length a.right.records.now / 11 + length a.left.records.now / 11) (replicate 2048 0) h

pub slice_bounds-match_all-end : goal.slice_bounds-match_all-end
slice_bounds-match_all-end c =
    let a = c.args in
    let h : length a.left.records.now / 11 ≤ 1024 = omega (arith, c.requires.lefts, c.requires.rights) in
    sym (length-take-le (length a.left.records.now / 11) (replicate 1024 0) h)

pub slice_bounds-match_all-end-2 : goal.slice_bounds-match_all-end-2
slice_bounds-match_all-end-2 c =
    let a = c.args in
    let h : length a.right.records.now / 11 ≤ 1024 = omega (arith, c.requires.lefts, c.requires.rights) in
    sym (length-take-le (length a.right.records.now / 11) (replicate 1024 0) h)

-- the parts that were lent come back as long as they were
kept-others : (c : After-match_hands) → length c.match_hands.new.others ≡ length c.args.right.records.now / 11 + length c.args.left.records.now / 11
kept-others c = let a = c.args in others_length a.left.text.now a.left.records.now a.left.reals.now a.right.text.now a.right.records.now a.right.reals.now c.match_hands.new.others c.match_hands.ensures

kept-left : (c : After-match_all) → length c.match_all.new.matches ≡ length c.args.left.records.now / 11
kept-left c =
    let h : length c.args.left.records.now / 11 ≤ 1024 = c.requires.lefts in
    c.match_all.auto.matches ∙ length-take-le (length c.args.left.records.now / 11) (replicate 1024 0) h

kept-right : (c : After-match_all-2) → length c.match_all-2.new.matches ≡ length c.args.right.records.now / 11
kept-right c =
    let h : length c.args.right.records.now / 11 ≤ 1024 = c.requires.rights in
    c.match_all-2.auto.matches ∙ length-take-le (length c.args.right.records.now / 11) (replicate 1024 0) h

pub slice_bounds-others-end-2 : goal.slice_bounds-others-end-2
slice_bounds-others-end-2 c =
    front_within c.match_hands.new.others _ (kept-others (goal.at.slice_bounds-others-end-2 c).After-match_hands)

pub slice_bounds-pick_others-end : goal.slice_bounds-pick_others-end
slice_bounds-pick_others-end c =
    sym (length-take-le _ _ (front_within c.match_hands.new.others _ (kept-others (goal.at.slice_bounds-pick_others-end c).After-match_hands)))

pub slice_bounds-left_base-end-2 : goal.slice_bounds-left_base-end-2
slice_bounds-left_base-end-2 c =
    front_within c.match_all.new.matches _ (kept-left (goal.at.slice_bounds-left_base-end-2 c).After-match_all)

pub slice_bounds-pick_others-end-2 : goal.slice_bounds-pick_others-end-2
slice_bounds-pick_others-end-2 c =
    sym (length-take-le _ _ (front_within c.match_all.new.matches _ (kept-left (goal.at.slice_bounds-pick_others-end-2 c).After-match_all)))

pub slice_bounds-right_base-end-2 : goal.slice_bounds-right_base-end-2
slice_bounds-right_base-end-2 c =
    front_within c.match_all-2.new.matches _ (kept-right (goal.at.slice_bounds-right_base-end-2 c).After-match_all-2)

pub slice_bounds-pick_others-end-3 : goal.slice_bounds-pick_others-end-3
slice_bounds-pick_others-end-3 c =
    sym (length-take-le _ _ (front_within c.match_all-2.new.matches _ (kept-right (goal.at.slice_bounds-pick_others-end-3 c).After-match_all-2)))

pub slice_bounds-pick_others-end-4 : goal.slice_bounds-pick_others-end-4
slice_bounds-pick_others-end-4 c =
    let a = c.args in
    let h : length a.right.records.now / 11 + length a.left.records.now / 11 ≤ 2048 = omega (arith, c.requires.lefts, c.requires.rights) in
    sym (length-take-le (length a.right.records.now / 11 + length a.left.records.now / 11) (replicate 2048 0) h)

pub pick_others-requires : goal.pick_others-requires
pick_others-requires c =
    let a = c.args in
    front_has (length a.right.records.now / 11) (length a.left.records.now / 11) c.match_hands.new.others _ (kept-others (goal.at.pick_others-requires c).After-match_hands)

-- what is picked
picked : (c : After-pick_others) → let a = c.args in Picks (row_mark a.base.text.now a.base.records.now a.base.reals.now a.left.text.now a.left.records.now a.left.reals.now a.right.text.now a.right.records.now a.right.reals.now) (row_count a.base.text.now a.base.records.now a.base.reals.now a.left.text.now a.left.records.now a.left.reals.now a.right.text.now a.right.records.now a.right.reals.now) c.pick_others.result c.pick_others.new.marks
picked c =
    let a = c.args in
    let hands = c.match_hands in
    let of_left = c.match_all in
    let of_right = c.match_all-2 in
    let h : length a.right.records.now / 11 + length a.left.records.now / 11 ≤ 2048 = omega (arith, c.requires.lefts, c.requires.rights) in
    rows_picked a.base.text.now a.base.records.now a.base.reals.now a.left.text.now a.left.records.now a.left.reals.now a.right.text.now a.right.records.now a.right.reals.now _ _ _
    (others_front a.left.text.now a.left.records.now a.left.reals.now a.right.text.now a.right.records.now a.right.reals.now hands.new.others hands.ensures _)
    (tabled_front (match_of a.left.text.now a.left.records.now a.left.reals.now a.base.text.now a.base.records.now a.base.reals.now) (length a.left.records.now / 11) _ (length-take-le (length a.left.records.now / 11) (replicate 1024 0) c.requires.lefts) of_left.new.matches _ of_left.ensures)
    (tabled_front (match_of a.right.text.now a.right.records.now a.right.reals.now a.base.text.now a.base.records.now a.base.reals.now) (length a.right.records.now / 11) _ (length-take-le (length a.right.records.now / 11) (replicate 1024 0) c.requires.rights) of_right.new.matches _ of_right.ensures)
    _ (length-take-le (length a.right.records.now / 11 + length a.left.records.now / 11) (replicate 2048 0) h) _ _ c.pick_others.ensures

taken : (c : In-Some) → let a = c.args in Picks (row_mark a.base.text.now a.base.records.now a.base.reals.now a.left.text.now a.left.records.now a.left.reals.now a.right.text.now a.right.records.now a.right.reals.now) (row_count a.base.text.now a.base.records.now a.base.reals.now a.left.text.now a.left.records.now a.left.reals.now a.right.text.now a.right.records.now a.right.reals.now) c.pick_others.result c.pick_others.new.marks → Counted (row_mark a.base.text.now a.base.records.now a.base.reals.now a.left.text.now a.left.records.now a.left.reals.now a.right.text.now a.right.records.now a.right.reals.now) (row_count a.base.text.now a.base.records.now a.base.reals.now a.left.text.now a.left.records.now a.left.reals.now a.right.text.now a.right.records.now a.right.reals.now) c.in-Some.count c.pick_others.new.marks
taken c p = counted _ _ _ _ p c.in-Some.count c.in-Some.is

kept-marks : (c : After-pick_others) → length c.pick_others.new.marks ≡ length c.args.right.records.now / 11 + length c.args.left.records.now / 11
kept-marks c =
    let a = c.args in
    let h : length a.right.records.now / 11 + length a.left.records.now / 11 ≤ 2048 = omega (arith, c.requires.lefts, c.requires.rights) in
    c.pick_others.auto.marks ∙ length-take-le (length a.right.records.now / 11 + length a.left.records.now / 11) (replicate 2048 0) h

few : (c : In-Some) → let a = c.args in Picks (row_mark a.base.text.now a.base.records.now a.base.reals.now a.left.text.now a.left.records.now a.left.reals.now a.right.text.now a.right.records.now a.right.reals.now) (row_count a.base.text.now a.base.records.now a.base.reals.now a.left.text.now a.left.records.now a.left.reals.now a.right.text.now a.right.records.now a.right.reals.now) c.pick_others.result c.pick_others.new.marks → c.in-Some.count ≤ length a.order.now
few c p =
    let a = c.args in
    let k = count_few a.base.text.now a.base.records.now a.base.reals.now a.left.text.now a.left.records.now a.left.reals.now a.right.text.now a.right.records.now a.right.reals.now _ _ (taken c p) in
    omega (arith, k, c.requires.lefts, c.requires.rights, c.requires.places)

pub slice_bounds-others-end-in-Some : goal.slice_bounds-others-end-in-Some
slice_bounds-others-end-in-Some c =
    front_within c.match_hands.new.others _ (kept-others (goal.at.slice_bounds-others-end-in-Some c).After-match_hands)

pub slice_bounds-marks-end-in-Some : goal.slice_bounds-marks-end-in-Some
slice_bounds-marks-end-in-Some c =
    front_within c.pick_others.new.marks _ (kept-marks (goal.at.slice_bounds-marks-end-in-Some c).After-pick_others)

pub slice_bounds-arrange-end : goal.slice_bounds-arrange-end
slice_bounds-arrange-end c =
    sym (length-take-le _ _ (front_within c.pick_others.new.marks _ (kept-marks (goal.at.slice_bounds-arrange-end c).After-pick_others)))

pub slice_bounds-arrange-end-in-Some : goal.slice_bounds-arrange-end-in-Some
slice_bounds-arrange-end-in-Some c =
    few (goal.at.slice_bounds-arrange-end-in-Some c).In-Some (picked (goal.at.slice_bounds-arrange-end-in-Some c).After-pick_others)

pub slice_bounds-arrange-end-in-Some-2 : goal.slice_bounds-arrange-end-in-Some-2
slice_bounds-arrange-end-in-Some-2 c =
    sym (length-take-le _ _ (few (goal.at.slice_bounds-arrange-end-in-Some-2 c).In-Some (picked (goal.at.slice_bounds-arrange-end-in-Some-2 c).After-pick_others)))

pub returns-then-arrange : goal.returns-then-arrange
returns-then-arrange c =
    let a = c.args in
    let arrange = c.arrange in
    rows_made a.base.text.now a.base.records.now a.base.reals.now a.left.text.now a.left.records.now a.left.reals.now a.right.text.now a.right.records.now a.right.reals.now c.in-Some.count _ (taken (goal.at.returns-then-arrange c).In-Some (picked (goal.at.returns-then-arrange c).After-pick_others)) a.order.now arrange.new.order _ _
    (others_front a.left.text.now a.left.records.now a.left.reals.now a.right.text.now a.right.records.now a.right.reals.now c.match_hands.new.others c.match_hands.ensures _) (marks_front a.base.text.now a.base.records.now a.base.reals.now a.left.text.now a.left.records.now a.left.reals.now a.right.text.now a.right.records.now a.right.reals.now _ _ (taken (goal.at.returns-then-arrange c).In-Some (picked (goal.at.returns-then-arrange c).After-pick_others)) _) (few (goal.at.returns-then-arrange c).In-Some (picked (goal.at.returns-then-arrange c).After-pick_others)) arrange.auto.order _ c.if-arrange.true arrange.ensures

pub returns-in-None : goal.returns-in-None
returns-in-None c =
    let a = c.args in
    rows_clash a.base.text.now a.base.records.now a.base.reals.now a.left.text.now a.left.records.now a.left.reals.now a.right.text.now a.right.records.now a.right.reals.now a.order.now _ _ (picked (goal.at.returns-in-None c).After-pick_others) c.in-None.is

pub returns-else-arrange : goal.returns-else-arrange
returns-else-arrange c =
    let a = c.args in
    let arrange = c.arrange in
    rows_stuck a.base.text.now a.base.records.now a.base.reals.now a.left.text.now a.left.records.now a.left.reals.now a.right.text.now a.right.records.now a.right.reals.now c.in-Some.count _ (taken (goal.at.returns-else-arrange c).In-Some (picked (goal.at.returns-else-arrange c).After-pick_others)) a.order.now arrange.new.order _ _
    (others_front a.left.text.now a.left.records.now a.left.reals.now a.right.text.now a.right.records.now a.right.reals.now c.match_hands.new.others c.match_hands.ensures _) (marks_front a.base.text.now a.base.records.now a.base.reals.now a.left.text.now a.left.records.now a.left.reals.now a.right.text.now a.right.records.now a.right.reals.now _ _ (taken (goal.at.returns-else-arrange c).In-Some (picked (goal.at.returns-else-arrange c).After-pick_others)) _) (few (goal.at.returns-else-arrange c).In-Some (picked (goal.at.returns-else-arrange c).After-pick_others)) arrange.auto.order _ c.if-arrange.false arrange.ensures
