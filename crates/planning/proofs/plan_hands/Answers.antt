-- `planning::plan_hands` meets its contract.
use mathlib.Core.Path.{◌≡◌, sym, ◌∙◌}
use lib.ListN.{length}
use lib.Seq.{length-take-le, take_at}
use Rattle.laws.proofs.ListLaws.{front_within}
use Rattle.planning.proofs.PlanLaws.{few_records, hands_read, hands_refused}
use Rattle.planning.proofs.plan_hands.Goals as goal
use Rattle.planning.proofs.plan_hands.Goals.{After-read_both}

pub slice_bounds-left_records-end : goal.slice_bounds-left_records-end
slice_bounds-left_records-end c = c.requires.few

pub slice_bounds-read_both-end : goal.slice_bounds-read_both-end
slice_bounds-read_both-end c = sym (length-take-le _ _ c.requires.few)

pub slice_bounds-left_reals-end : goal.slice_bounds-left_reals-end
slice_bounds-left_reals-end c = c.requires.few_reals

pub slice_bounds-read_both-end-2 : goal.slice_bounds-read_both-end-2
slice_bounds-read_both-end-2 c = sym (length-take-le _ _ c.requires.few_reals)

pub slice_bounds-right_records-end : goal.slice_bounds-right_records-end
slice_bounds-right_records-end c = c.requires.few

pub slice_bounds-read_both-end-3 : goal.slice_bounds-read_both-end-3
slice_bounds-read_both-end-3 c = sym (length-take-le _ _ c.requires.few)

pub slice_bounds-right_reals-end : goal.slice_bounds-right_reals-end
slice_bounds-right_reals-end c = c.requires.few_reals

pub slice_bounds-read_both-end-4 : goal.slice_bounds-read_both-end-4
slice_bounds-read_both-end-4 c = sym (length-take-le _ _ c.requires.few_reals)

-- the parts that were lent to the readers come back as long as they were
kept-left-records : (c : After-read_both) → length c.read_both.new.left_records ≡ c.args.numbers
kept-left-records c = c.read_both.auto.left_records ∙ length-take-le _ _ c.requires.few

kept-left-reals : (c : After-read_both) → length c.read_both.new.left_reals ≡ length c.args.base_reals.now
kept-left-reals c = c.read_both.auto.left_reals ∙ length-take-le _ _ c.requires.few_reals

kept-right-records : (c : After-read_both) → length c.read_both.new.right_records ≡ c.args.numbers
kept-right-records c = c.read_both.auto.right_records ∙ length-take-le _ _ c.requires.few

kept-right-reals : (c : After-read_both) → length c.read_both.new.right_reals ≡ length c.args.base_reals.now
kept-right-reals c = c.read_both.auto.right_reals ∙ length-take-le _ _ c.requires.few_reals

pub slice_bounds-left_records-end-in-Ok : goal.slice_bounds-left_records-end-in-Ok
slice_bounds-left_records-end-in-Ok c =
    front_within c.read_both.new.left_records _ (kept-left-records (goal.at.slice_bounds-left_records-end-in-Ok c).After-read_both)

pub slice_bounds-first_records-end : goal.slice_bounds-first_records-end
slice_bounds-first_records-end c =
    sym (length-take-le _ _ (front_within c.read_both.new.left_records _ (kept-left-records (goal.at.slice_bounds-first_records-end c).After-read_both)))

pub slice_bounds-left_reals-end-in-Ok : goal.slice_bounds-left_reals-end-in-Ok
slice_bounds-left_reals-end-in-Ok c =
    front_within c.read_both.new.left_reals _ (kept-left-reals (goal.at.slice_bounds-left_reals-end-in-Ok c).After-read_both)

pub slice_bounds-plan_rows-end : goal.slice_bounds-plan_rows-end
slice_bounds-plan_rows-end c =
    sym (length-take-le _ _ (front_within c.read_both.new.left_reals _ (kept-left-reals (goal.at.slice_bounds-plan_rows-end c).After-read_both)))

pub slice_bounds-right_records-end-in-Ok : goal.slice_bounds-right_records-end-in-Ok
slice_bounds-right_records-end-in-Ok c =
    front_within c.read_both.new.right_records _ (kept-right-records (goal.at.slice_bounds-right_records-end-in-Ok c).After-read_both)

pub slice_bounds-first_records-end-in-Ok : goal.slice_bounds-first_records-end-in-Ok
slice_bounds-first_records-end-in-Ok c =
    sym (length-take-le _ _ (front_within c.read_both.new.right_records _ (kept-right-records (goal.at.slice_bounds-first_records-end-in-Ok c).After-read_both)))

pub slice_bounds-right_reals-end-in-Ok : goal.slice_bounds-right_reals-end-in-Ok
slice_bounds-right_reals-end-in-Ok c =
    front_within c.read_both.new.right_reals _ (kept-right-reals (goal.at.slice_bounds-right_reals-end-in-Ok c).After-read_both)

pub slice_bounds-plan_rows-end-in-Ok : goal.slice_bounds-plan_rows-end-in-Ok
slice_bounds-plan_rows-end-in-Ok c =
    sym (length-take-le _ _ (front_within c.read_both.new.right_reals _ (kept-right-reals (goal.at.slice_bounds-plan_rows-end-in-Ok c).After-read_both)))

pub plan_rows-requires : goal.plan_rows-requires
plan_rows-requires c =
    record {
      lefts = few_records c.in-Ok.counts.left.primitives _ c.requires.few _ _ _ (kept-left-records (goal.at.plan_rows-requires c).After-read_both) (take_at c.read_both.new.left_records _ _ (kept-left-records (goal.at.plan_rows-requires c).After-read_both)) c.first_records.ensures;
      rights = few_records c.in-Ok.counts.right.primitives _ c.requires.few _ _ _ (kept-right-records (goal.at.plan_rows-requires c).After-read_both) (take_at c.read_both.new.right_records _ _ (kept-right-records (goal.at.plan_rows-requires c).After-read_both)) c.first_records-in-Ok.ensures;
      places = c.requires.places;
    }

pub returns-in-Err : goal.returns-in-Err
returns-in-Err c =
    hands_refused c.args.mode c.args.numbers c.args.base.now c.args.base_records.now c.args.base_reals.now c.args.left.now _ _ c.args.right.now _ _ _ _ _ _ _
    (sym c.read_both.auto.left_records ∙ kept-left-records (goal.at.returns-in-Err c).After-read_both)
    (sym c.read_both.auto.left_reals ∙ kept-left-reals (goal.at.returns-in-Err c).After-read_both)
    (sym c.read_both.auto.right_records ∙ kept-right-records (goal.at.returns-in-Err c).After-read_both)
    (sym c.read_both.auto.right_reals ∙ kept-right-reals (goal.at.returns-in-Err c).After-read_both)
    _ _ _ (rw c.in-Err.is at c.read_both.ensures) _ c.side_scene.ensures

pub returns-in-Ok : goal.returns-in-Ok
returns-in-Ok c =
    hands_read c.args.mode c.args.numbers c.args.base.now c.args.base_records.now c.args.base_reals.now c.args.left.now _ _ c.args.right.now _ _ _ _ _ _ _
    (sym c.read_both.auto.left_records ∙ kept-left-records (goal.at.returns-in-Ok c).After-read_both)
    (sym c.read_both.auto.left_reals ∙ kept-left-reals (goal.at.returns-in-Ok c).After-read_both)
    (sym c.read_both.auto.right_records ∙ kept-right-records (goal.at.returns-in-Ok c).After-read_both)
    (sym c.read_both.auto.right_reals ∙ kept-right-reals (goal.at.returns-in-Ok c).After-read_both)
    _ _ _ _ (rw c.in-Ok.is at c.read_both.ensures)
    _ (take_at c.read_both.new.left_records _ _ (kept-left-records (goal.at.returns-in-Ok c).After-read_both)) _ c.first_records.ensures
    _ (take_at c.read_both.new.left_reals _ _ (kept-left-reals (goal.at.returns-in-Ok c).After-read_both))
    _ (take_at c.read_both.new.right_records _ _ (kept-right-records (goal.at.returns-in-Ok c).After-read_both)) _ c.first_records-in-Ok.ensures
    _ (take_at c.read_both.new.right_reals _ _ (kept-right-reals (goal.at.returns-in-Ok c).After-read_both))
    _ _ c.plan_rows.ensures _ c.order_answer.ensures
