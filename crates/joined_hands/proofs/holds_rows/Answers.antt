-- `joined_hands::holds_rows` meets its contract.
use mathlib.Core.Path.{◌≡◌, sym, ◌∙◌}
use Prim.Native.Nat.{◌/◌}
use lib.ListN.{length}
use lib.Seq.{length-take-le}
use Rattle.joined_hands.proofs.HandsLaws.{matches_front}
use Rattle.joined_hands.specs.Hands.{holds_rows}
use Rattle.laws.proofs.ListLaws.{front_within}
use Rattle.typed_matches.specs.Held.{all_held}
use Rattle.matching.specs.Matching.{match_of}
use Rattle.joined_hands.proofs.holds_rows.Goals as goal
use Rattle.joined_hands.proofs.holds_rows.Goals.{After-match_all, After-match_all-2}

pub slice_bounds-left_matches-end : goal.slice_bounds-left_matches-end
slice_bounds-left_matches-end c = c.requires.lefts

pub slice_bounds-match_all-end : goal.slice_bounds-match_all-end
slice_bounds-match_all-end c = sym (length-take-le _ _ c.requires.lefts)

-- the matches that were lent come back as many as they were
lefts-many : (c : After-match_all) → length c.match_all.new.matches ≡ length c.args.left.records.now / 11
lefts-many c = c.match_all.auto.matches ∙ length-take-le _ _ c.requires.lefts

rights-many : (c : After-match_all-2) → length c.match_all-2.new.matches ≡ length c.args.right.records.now / 11
rights-many c = c.match_all-2.auto.matches ∙ length-take-le _ _ c.requires.rights

pub slice_bounds-right_matches-end : goal.slice_bounds-right_matches-end
slice_bounds-right_matches-end c = c.requires.rights

pub slice_bounds-match_all-end-2 : goal.slice_bounds-match_all-end-2
slice_bounds-match_all-end-2 c = sym (length-take-le _ _ c.requires.rights)

pub slice_bounds-right_matches-end-2 : goal.slice_bounds-right_matches-end-2
slice_bounds-right_matches-end-2 c = front_within c.match_all-2.new.matches _ (rights-many (goal.at.slice_bounds-right_matches-end-2 c).After-match_all-2)

pub slice_bounds-all_held-end : goal.slice_bounds-all_held-end
slice_bounds-all_held-end c = sym (length-take-le _ _ (front_within c.match_all-2.new.matches _ (rights-many (goal.at.slice_bounds-all_held-end c).After-match_all-2)))

pub slice_bounds-left_matches-end-2 : goal.slice_bounds-left_matches-end-2
slice_bounds-left_matches-end-2 c = front_within c.match_all.new.matches _ (lefts-many (goal.at.slice_bounds-left_matches-end-2 c).After-match_all)

pub slice_bounds-all_held-end-2 : goal.slice_bounds-all_held-end-2
slice_bounds-all_held-end-2 c = sym (length-take-le _ _ (front_within c.match_all.new.matches _ (lefts-many (goal.at.slice_bounds-all_held-end-2 c).After-match_all)))

pub returns : goal.returns
unfolding holds_rows
returns c =
    let a = c.args in
    let rights = matches_front (match_of a.right.text.now a.right.records.now a.right.reals.now a.typed.text.now a.typed.records.now a.typed.reals.now) _ _ _ c.requires.rights c.match_all-2.ensures _ in
    let lefts = matches_front (match_of a.left.text.now a.left.records.now a.left.reals.now a.typed.text.now a.typed.records.now a.typed.reals.now) _ _ _ c.requires.lefts c.match_all.ensures _ in
    c.all_held.ensures ∙ (λ i. all_held (rights i) (lefts i) a.order.now a.typed.text.now a.typed.records.now)
