-- `plain::breaks` meets its contract: the first two reals, and types without house rules, break none.
use Rattle.std.proofs.Common.{ℕ, ap, ◌∙◌}
use Rattle.context.specs.Seen.{back}
use Rattle.plain.proofs.RealLaws.{breaks_early, breaks_unruled}
use Rattle.scene.specs.HouseRules.{breach_at, house_rules}
use Rattle.plain.proofs.breaks.Goals as goal

pub returns-then-count-lt3 : goal.returns-then-count-lt3
returns-then-count-lt3 c =
    breaks_early c.args.d.kind _ c.args.x (back c.args.reals.now c.args.used 1) (back c.args.reals.now c.args.used 2) c.if-count-lt3.true
    ∙ ap (λ (n : ℕ). breach_at house_rules c.args.d.kind n c.args.x (back c.args.reals.now c.args.used 1) (back c.args.reals.now c.args.used 2)) c.less-count.ensures

pub returns-then-not-is_ruled : goal.returns-then-not-is_ruled
returns-then-not-is_ruled c = breaks_unruled c.args.d.kind _ c.args.x (back c.args.reals.now c.args.used 1) (back c.args.reals.now c.args.used 2) c.is_ruled.ensures c.if-not-is_ruled.true

pub returns : goal.returns
returns c = c.breaches.ensures ∙ (λ i. breach_at house_rules c.args.d.kind (c.less-count.ensures i) c.args.x (c.back-previous.ensures i) (c.back-first.ensures i))
