-- `mixed_driver::run` meets its contract.
use mathlib.Core.Path.{◌≡◌, ap, ◌∙◌}
use Prim.Native.Nat.{ℕ}
use lib.ListN.{length, replicate}
use Rattle.driver.specs.Ending.{end_of}
use Rattle.mixed_driver.specs.Paired.{enough_pairs}
use Rattle.scene.specs.HouseRules.{zero_real}
use Rattle.mixed_driver.proofs.EndLaws.{all_valid, mixture_refused, refused_before, short_pairs}
use Rattle.std.proofs.lemmas.Result.{err_from_is_err_and}
use Rattle.validation.specs.Validated.{validity_of}
use Rattle.mixed_driver.proofs.run.Goals as goal
use Rattle.mixed_driver.proofs.run.Goals.{After-enough_pairs}

-- the pair table keeps its length when it is cleared
enough : (c : After-enough_pairs) → c.enough_pairs.result ≡ enough_pairs (length c.args.records.now) (length c.args.pairs.now)
enough c = c.enough_pairs.ensures ∙ ap (enough_pairs (length c.args.records.now)) c.fill.auto.self

pub returns-then-not-enough_pairs : goal.returns-then-not-enough_pairs
returns-then-not-enough_pairs c =
    let a = c.args in
    short_pairs a.mode a.text.now a.records.now a.reals.now a.pairs.now a.index.now c.clear_all.ensures.records_after c.clear_all.ensures.reals_after (c.fill.ensures.after (λ _ e. e)) c.clear_all.ensures.index_after (enough (goal.at.returns-then-not-enough_pairs c).After-enough_pairs) c.if-not-enough_pairs.true-raw c.refused_short.ensures

pub returns-in_err-accepted : goal.returns-in_err-accepted
returns-in_err-accepted c =
    let a = c.args in
    let p = err_from_is_err_and c.from_residual.result c.from_residual.ensures.1 in
    rw (p.1, p.2) (refused_before a.mode a.text.now a.records.now a.reals.now a.pairs.now a.index.now (enough (goal.at.returns-in_err-accepted c).After-enough_pairs) c.if-not-enough_pairs.false-raw c.run.ensures (ap end_of c.in_err-accepted.was) (c.fill.ensures.after (λ _ e. e)))

pub returns : goal.returns
returns c =
    let a = c.args in
    all_valid a.mode a.text.now a.records.now a.reals.now a.pairs.now a.index.now (enough (goal.at.returns c).After-enough_pairs) c.if-not-enough_pairs.false-raw c.run.ensures (ap end_of c.in_ok-accepted.was) c.run.auto.records c.run.auto.index (c.fill.ensures.after (λ _ e. e)) c.validate.ensures.validates (ap validity_of c.in_default.is)

pub returns-in-Err : goal.returns-in-Err
returns-in-Err c =
    let a = c.args in
    let records = c.run.auto.records in
    let index = c.run.auto.index in
    let pairs = c.validate.auto.pairs ∙ c.fill.auto.self in
    mixture_refused a.mode a.text.now a.records.now a.reals.now a.pairs.now a.index.now (enough (goal.at.returns-in-Err c).After-enough_pairs) c.if-not-enough_pairs.false-raw c.run.ensures (ap end_of c.in_ok-accepted.was) records index (c.fill.ensures.after (λ _ e. e)) c.validate.ensures.validates (ap validity_of c.in-Err.is)
    (c.clear_all-in-Err.ensures.records_after ∙ ap (λ (n : ℕ). replicate n 0) records)
    (c.clear_all-in-Err.ensures.reals_after ∙ ap (λ (n : ℕ). replicate n zero_real) c.run.auto.reals)
    (c.fill-in-Err.ensures.after (λ _ e. e) ∙ ap (λ (n : ℕ). replicate n 0) pairs)
    (c.clear_all-in-Err.ensures.index_after ∙ ap (λ (n : ℕ). replicate n 0) index)
