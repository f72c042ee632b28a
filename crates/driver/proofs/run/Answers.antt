-- `driver::run` meets its contract.
use mathlib.Core.List.{List}
use mathlib.Core.Path.{◌≡◌, refl, sym, ap, subst, ◌∙◌}
use Prim.Native.Nat.{ℕ, ◌+◌, ◌-◌, ◌<◌}
use native.Mathlib.Omega.{arith}
use lib.Ieee.{Float}
use lib.ListN.{length, length-set, replicate}
use Rattle.driver.proofs.EndLaws.{ends_accepted, first_inv, reads_as, refuses_with, too_long}
use Rattle.progress.proofs.MoveLaws.{gets_on}
use Rattle.progress.proofs.NextLaws.{ready}
use Rattle.progress.specs.Invariant.{Inv, Ready}
use Rattle.laws.specs.Bytes.{Bytes}
use Rattle.scene.specs.HouseRules.{zero_real}
use Rattle.scene.specs.declared.Mode.{Mode}
use Rattle.scene.specs.declared.Settings.{Settings}
use Rattle.statement.specs.declared.State.{State}
use Rattle.statement.specs.Step.{as_step}
use Rattle.statement.specs.declared.Step.{Step}
use Rattle.driver.proofs.run.Goals as goal
use Rattle.driver.proofs.run.Goals.{After-next_step}

pub returns-then-text-gt-MOST_BYTES : goal.returns-then-text-gt-MOST_BYTES
unfolding lib.Ieee.of_bits
returns-then-text-gt-MOST_BYTES c =
    let a = c.args in
    let at-clear-all = c.clear_all in
    let at-if1 = c.if-text-gt-MOST_BYTES in
    too_long a.mode a.text.now a.records.now a.reals.now a.index.now _ _ _ at-clear-all.ensures.records_after at-clear-all.ensures.reals_after at-clear-all.ensures.index_after at-if1.true

pub loop-t-init : goal.loop-t-init
unfolding lib.Ieee.of_bits
loop-t-init c =
    let a = c.args in
    let at-clear-all = c.clear_all in
    let at-if1 = c.if-text-gt-MOST_BYTES in
    let at-settings-for = c.settings_for-settings in
    let at-between = c.between-s in
    (subst (Inv _ _ _ _ _) (sym at-between.ensures) (first_inv _ _ a.records.now a.reals.now a.index.now _ _ _ at-clear-all.ensures.records_after at-clear-all.ensures.reals_after at-clear-all.ensures.index_after at-if1.false _ at-settings-for.ensures), refl, refl, refl)

-- a turn of the loop, once its step is taken: the text, the tables and the state behind the plain statements, the settings, and what
-- holds of them
module _ (p : After-next_step) where
  abbrev mode : Mode
  mode = p.args.mode

  abbrev text : Bytes
  text = p.args.text.now

  abbrev lent_records : List ℕ
  lent_records = p.args.records.now

  abbrev lent-reals : List Float
  lent-reals = p.args.reals.now

  abbrev lent-index : List ℕ
  lent-index = p.args.index.now

  abbrev records : List ℕ
  records = p.statements-s.new.records

  abbrev reals : List Float
  reals = p.statements-s.new.reals

  abbrev index : List ℕ
  index = p.statements-s.new.index

  abbrev settings : Settings
  settings = p.settings_for-settings.result

  abbrev state : State
  state = p.statements-s.result

  inv : Inv text records reals index settings state
  inv = p.statements-s.ensures.inv p.loop-t.invariant.0

  in-mode : settings.mode ≡ mode
  in-mode = ap (λ (z : Settings). z.mode) p.settings_for-settings.ensures

  -- the tables keep their lengths, from the loop's start on and from the call on
  same-records : length records ≡ length p.clear_all.new.records
  same-records = p.statements-s.auto.records ∙ p.loop-t.invariant.1

  same_reals : length reals ≡ length p.clear_all.new.reals
  same_reals = p.statements-s.auto.reals ∙ p.loop-t.invariant.2

  same_index : length index ≡ length p.clear_all.new.index
  same_index = p.statements-s.auto.index ∙ p.loop-t.invariant.3

  kept-records : length records ≡ length lent_records
  kept-records = same-records ∙ p.clear_all.auto.records

  kept-reals : length reals ≡ length lent-reals
  kept-reals = same_reals ∙ p.clear_all.auto.reals

  kept-index : length index ≡ length lent-index
  kept-index = same_index ∙ p.clear_all.auto.index

  steps-to : (e : Step) → p.next_step.result ≡ e → Ready text records reals index settings state (as_step e)
  steps-to e q = ready _ _ _ _ _ _ inv _ _ p.next_step.ensures (ap as_step q)

  -- a step from the state behind the plain statements gets on from where the turn began
  on_from : (n : ℕ) → length text + 1 - n < length text + 1 - state.at → length text + 1 - n < length text + 1 - p.loop-t.s.at
  on_from n h = omega (arith, p.statements-s.ensures.at_le_at)

pub loop-t-smaller-in-Going : goal.loop-t-smaller-in-Going
loop-t-smaller-in-Going c =
    let at-t = c.in-Going in
    let r = steps-to (goal.at.loop-t-smaller-in-Going c).After-next_step _ at-t.is in on_from (goal.at.loop-t-smaller-in-Going c).After-next_step _ (gets_on _ _ _ _ _ _ r.0 _ r.1)

pub loop-t-preserved-in-Going : goal.loop-t-preserved-in-Going
loop-t-preserved-in-Going c =
    let at-t = c.in-Going in
    ((steps-to (goal.at.loop-t-preserved-in-Going c).After-next_step _ at-t.is).0, same-records (goal.at.loop-t-preserved-in-Going c).After-next_step, same_reals (goal.at.loop-t-preserved-in-Going c).After-next_step, same_index (goal.at.loop-t-preserved-in-Going c).After-next_step)

pub offset_bounds-reals-s : goal.offset_bounds-reals-s
offset_bounds-reals-s c =
    let at-t2 = c.in-Real in
    omega (arith, (steps-to (goal.at.offset_bounds-reals-s c).After-next_step _ at-t2.is).0, kept-reals (goal.at.offset_bounds-reals-s c).After-next_step, c.well_formed.1.1.1.0.1)

pub bounds-reals-s : goal.bounds-reals-s
bounds-reals-s c = (steps-to (goal.at.bounds-reals-s c).After-next_step _ c.in-Real.is).0

pub loop-t-smaller-in-Real : goal.loop-t-smaller-in-Real
loop-t-smaller-in-Real c =
    let at-t2 = c.in-Real in
    let r = (steps-to (goal.at.loop-t-smaller-in-Real c).After-next_step _ at-t2.is).1 _ refl in on_from (goal.at.loop-t-smaller-in-Real c).After-next_step _ (gets_on _ _ _ _ _ _ r.0 _ r.1)

pub loop-t-preserved-in-Real : goal.loop-t-preserved-in-Real
loop-t-preserved-in-Real c =
    let at-t2 = c.in-Real in
    (((steps-to (goal.at.loop-t-preserved-in-Real c).After-next_step _ at-t2.is).1 _ refl).0, same-records (goal.at.loop-t-preserved-in-Real c).After-next_step, simp length-set (same_reals (goal.at.loop-t-preserved-in-Real c).After-next_step), same_index (goal.at.loop-t-preserved-in-Real c).After-next_step)

pub offset_bounds-reals-s-in-Last : goal.offset_bounds-reals-s-in-Last
offset_bounds-reals-s-in-Last c =
    let at-t3 = c.in-Last in
    omega (arith, (steps-to (goal.at.offset_bounds-reals-s-in-Last c).After-next_step _ at-t3.is).0, kept-reals (goal.at.offset_bounds-reals-s-in-Last c).After-next_step, c.well_formed.1.1.1.0.1)

pub bounds-reals-s-in-Last : goal.bounds-reals-s-in-Last
bounds-reals-s-in-Last c = (steps-to (goal.at.bounds-reals-s-in-Last c).After-next_step _ c.in-Last.is).0

pub loop-t-smaller-in-Last : goal.loop-t-smaller-in-Last
loop-t-smaller-in-Last c =
    let at-t3 = c.in-Last in
    let at-enter = c.enter-s in
    let r = (steps-to (goal.at.loop-t-smaller-in-Last c).After-next_step _ at-t3.is).1 _ _ _ _ refl (record { state = at-enter.ensures.value; stored = at-enter.ensures.records_after; held = at-enter.ensures.index_after; sized = at-enter.auto.records; spread = at-enter.auto.index }) in on_from (goal.at.loop-t-smaller-in-Last c).After-next_step _ (gets_on _ _ _ _ _ _ r.0 _ r.1)

pub loop-t-preserved-in-Last : goal.loop-t-preserved-in-Last
loop-t-preserved-in-Last c =
    let at-t3 = c.in-Last in
    let at-enter = c.enter-s in
    (((steps-to (goal.at.loop-t-preserved-in-Last c).After-next_step _ at-t3.is).1 _ _ _ _ refl (record { state = at-enter.ensures.value; stored = at-enter.ensures.records_after; held = at-enter.ensures.index_after; sized = at-enter.auto.records; spread = at-enter.auto.index })).0, at-enter.auto.records ∙ same-records (goal.at.loop-t-preserved-in-Last c).After-next_step, simp length-set (same_reals (goal.at.loop-t-preserved-in-Last c).After-next_step), at-enter.auto.index ∙ same_index (goal.at.loop-t-preserved-in-Last c).After-next_step)

pub loop-t-smaller : goal.loop-t-smaller
loop-t-smaller c =
    let at-t4 = c.in-Complete in
    let at-enter2 = c.enter-s-in-Complete in
    let r = steps-to (goal.at.loop-t-smaller c).After-next_step _ at-t4.is _ _ _ (record { state = at-enter2.ensures.value; stored = at-enter2.ensures.records_after; held = at-enter2.ensures.index_after; sized = at-enter2.auto.records; spread = at-enter2.auto.index }) in on_from (goal.at.loop-t-smaller c).After-next_step _ (gets_on _ _ _ _ _ _ r.0 _ r.1)

pub loop-t-preserved : goal.loop-t-preserved
loop-t-preserved c =
    let at-t4 = c.in-Complete in
    let at-enter2 = c.enter-s-in-Complete in
    ((steps-to (goal.at.loop-t-preserved c).After-next_step _ at-t4.is _ _ _ (record { state = at-enter2.ensures.value; stored = at-enter2.ensures.records_after; held = at-enter2.ensures.index_after; sized = at-enter2.auto.records; spread = at-enter2.auto.index })).0, at-enter2.auto.records ∙ same-records (goal.at.loop-t-preserved c).After-next_step, same_reals (goal.at.loop-t-preserved c).After-next_step, at-enter2.auto.index ∙ same_index (goal.at.loop-t-preserved c).After-next_step)

pub shape_of-records-in-Refused : goal.shape_of-records-in-Refused
shape_of-records-in-Refused c =
    let at-clear-all2 = c.clear_all-in-Refused in
    at-clear-all2.auto.records ∙ kept-records (goal.at.shape_of-records-in-Refused c).After-next_step

pub shape_of-reals-in-Refused : goal.shape_of-reals-in-Refused
shape_of-reals-in-Refused c =
    let at-clear-all2 = c.clear_all-in-Refused in
    at-clear-all2.auto.reals ∙ kept-reals (goal.at.shape_of-reals-in-Refused c).After-next_step

pub shape_of-index-in-Refused : goal.shape_of-index-in-Refused
shape_of-index-in-Refused c =
    let at-clear-all2 = c.clear_all-in-Refused in
    at-clear-all2.auto.index ∙ kept-index (goal.at.shape_of-index-in-Refused c).After-next_step

pub returns-in-Refused : goal.returns-in-Refused
unfolding lib.Ieee.of_bits
returns-in-Refused c =
    let at-reason = c.in-Refused in
    let at-clear-all2 = c.clear_all-in-Refused in
    refuses_with (mode (goal.at.returns-in-Refused c).After-next_step) (text (goal.at.returns-in-Refused c).After-next_step) (lent_records (goal.at.returns-in-Refused c).After-next_step) (lent-reals (goal.at.returns-in-Refused c).After-next_step) (lent-index (goal.at.returns-in-Refused c).After-next_step) _ _ _ (at-clear-all2.ensures.records_after ∙ ap (λ (n : ℕ). replicate n 0) (kept-records (goal.at.returns-in-Refused c).After-next_step)) (at-clear-all2.ensures.reals_after ∙ ap (λ (n : ℕ). replicate n zero_real) (kept-reals (goal.at.returns-in-Refused c).After-next_step)) (at-clear-all2.ensures.index_after ∙ ap (λ (n : ℕ). replicate n 0) (kept-index (goal.at.returns-in-Refused c).After-next_step)) _ _ (reads_as (mode (goal.at.returns-in-Refused c).After-next_step) (text (goal.at.returns-in-Refused c).After-next_step) (lent_records (goal.at.returns-in-Refused c).After-next_step) (lent-reals (goal.at.returns-in-Refused c).After-next_step) (lent-index (goal.at.returns-in-Refused c).After-next_step) _ _ _ _ _ (inv (goal.at.returns-in-Refused c).After-next_step) (in-mode (goal.at.returns-in-Refused c).After-next_step) (kept-records (goal.at.returns-in-Refused c).After-next_step) (kept-reals (goal.at.returns-in-Refused c).After-next_step) (kept-index (goal.at.returns-in-Refused c).After-next_step) ∙ steps-to (goal.at.returns-in-Refused c).After-next_step _ at-reason.is)

pub shape_of-records-in-Ended : goal.shape_of-records-in-Ended
shape_of-records-in-Ended c = kept-records (goal.at.shape_of-records-in-Ended c).After-next_step

pub shape_of-reals-in-Ended : goal.shape_of-reals-in-Ended
shape_of-reals-in-Ended c = kept-reals (goal.at.shape_of-reals-in-Ended c).After-next_step

pub shape_of-index-in-Ended : goal.shape_of-index-in-Ended
shape_of-index-in-Ended c = kept-index (goal.at.shape_of-index-in-Ended c).After-next_step

pub returns-in-Ended : goal.returns-in-Ended
returns-in-Ended c =
    let at-enum-told = c.in-Ended in
    ends_accepted (mode (goal.at.returns-in-Ended c).After-next_step) (text (goal.at.returns-in-Ended c).After-next_step) (lent_records (goal.at.returns-in-Ended c).After-next_step) (lent-reals (goal.at.returns-in-Ended c).After-next_step) (lent-index (goal.at.returns-in-Ended c).After-next_step) _ _ _ _ _ (inv (goal.at.returns-in-Ended c).After-next_step) (in-mode (goal.at.returns-in-Ended c).After-next_step) (kept-records (goal.at.returns-in-Ended c).After-next_step) (kept-reals (goal.at.returns-in-Ended c).After-next_step) (kept-index (goal.at.returns-in-Ended c).After-next_step) _ _ _ (steps-to (goal.at.returns-in-Ended c).After-next_step _ at-enum-told.is)
