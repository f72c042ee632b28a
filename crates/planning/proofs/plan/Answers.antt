-- `planning::plan` meets its contract.
use mathlib.Core.Path.{◌≡◌, refl, sym, ◌∙◌}
use Prim.Native.Nat.{◌≤◌}
use native.Mathlib.Omega.{arith}
use lib.ListN.{length}
use lib.Seq.{length-take-le, take_at}
use Rattle.laws.proofs.ListLaws.{front_within}
use Rattle.planning.proofs.PlanLaws.{base_read, base_refused, few_lent}
use Rattle.planning.proofs.plan.Goals as goal
use Rattle.planning.proofs.plan.Goals.{After-read_with_own_tables}

pub slice_bounds-read_with_own_tables-end : goal.slice_bounds-read_with_own_tables-end
slice_bounds-read_with_own_tables-end c = let h : c.min-n.result ≤ 11264 = omega arith in sym (length-take-le _ _ h)

pub slice_bounds-read_with_own_tables-end-2 : goal.slice_bounds-read_with_own_tables-end-2
slice_bounds-read_with_own_tables-end-2 c = let h : c.min-k.result ≤ 4096 = omega arith in sym (length-take-le _ _ h)

-- the parts that were lent to the reader come back as long as they were
kept-records : (c : After-read_with_own_tables) → length c.read_with_own_tables.new.records ≡ c.min-n.result
kept-records c = let h : c.min-n.result ≤ 11264 = omega arith in c.read_with_own_tables.auto.records ∙ length-take-le _ _ h

kept-reals : (c : After-read_with_own_tables) → length c.read_with_own_tables.new.reals ≡ c.min-k.result
kept-reals c = let h : c.min-k.result ≤ 4096 = omega arith in c.read_with_own_tables.auto.reals ∙ length-take-le _ _ h

pub slice_bounds-base_records-end-in-Ok : goal.slice_bounds-base_records-end-in-Ok
slice_bounds-base_records-end-in-Ok c =
    front_within c.read_with_own_tables.new.records _ (kept-records (goal.at.slice_bounds-base_records-end-in-Ok c).After-read_with_own_tables)

pub slice_bounds-first_records-end : goal.slice_bounds-first_records-end
slice_bounds-first_records-end c =
    sym (length-take-le _ _ (front_within c.read_with_own_tables.new.records _ (kept-records (goal.at.slice_bounds-first_records-end c).After-read_with_own_tables)))

pub slice_bounds-base_reals-end-in-Ok : goal.slice_bounds-base_reals-end-in-Ok
slice_bounds-base_reals-end-in-Ok c =
    front_within c.read_with_own_tables.new.reals _ (kept-reals (goal.at.slice_bounds-base_reals-end-in-Ok c).After-read_with_own_tables)

pub slice_bounds-plan_hands-end : goal.slice_bounds-plan_hands-end
slice_bounds-plan_hands-end c =
    sym (length-take-le _ _ (front_within c.read_with_own_tables.new.reals _ (kept-reals (goal.at.slice_bounds-plan_hands-end c).After-read_with_own_tables)))

pub slice_bounds-plan_hands-end-in-Ok : goal.slice_bounds-plan_hands-end-in-Ok
slice_bounds-plan_hands-end-in-Ok c = refl

pub plan_hands-answer-requires : goal.plan_hands-answer-requires
plan_hands-answer-requires c =
    let h : c.min-n.result ≤ 11264 = omega arith in
    let k : c.min-k.result ≤ 4096 = omega arith in
    record { few = h; few_reals = few_lent _ 4096 _ k; places = refl }

pub returns-in-Err : goal.returns-in-Err
returns-in-Err c =
    base_refused c.args.mode c.args.numbers c.args.reals c.args.base.now c.args.left.now c.args.right.now _ _ _
    (sym c.read_with_own_tables.auto.records ∙ kept-records (goal.at.returns-in-Err c).After-read_with_own_tables) c.min-n.ensures
    (sym c.read_with_own_tables.auto.reals ∙ kept-reals (goal.at.returns-in-Err c).After-read_with_own_tables ∙ c.min-k.ensures)
    _ _ _ _ (rw c.in-Err.is at c.read_with_own_tables.ensures) _ refl

pub returns-in-Ok : goal.returns-in-Ok
returns-in-Ok c =
    base_read c.args.mode c.args.numbers c.args.reals c.args.base.now c.args.left.now c.args.right.now _ _ _
    (sym c.read_with_own_tables.auto.records ∙ kept-records (goal.at.returns-in-Ok c).After-read_with_own_tables) c.min-n.ensures
    (sym c.read_with_own_tables.auto.reals ∙ kept-reals (goal.at.returns-in-Ok c).After-read_with_own_tables ∙ c.min-k.ensures)
    _ _ _ _ (rw c.in-Ok.is at c.read_with_own_tables.ensures)
    _ (take_at c.read_with_own_tables.new.records _ _ (kept-records (goal.at.returns-in-Ok c).After-read_with_own_tables)) _ c.first_records.ensures
    _ (take_at c.read_with_own_tables.new.reals _ _ (kept-reals (goal.at.returns-in-Ok c).After-read_with_own_tables))
    _ _ refl _ c.plan_hands-answer.ensures
