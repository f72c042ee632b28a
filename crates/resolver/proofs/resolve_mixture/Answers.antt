-- `resolver::resolve_mixture` meets its contract.
use mathlib.Core.Path.{◌∙◌}
use Rattle.resolver.proofs.StepLaws.{both_known, first_unknown_lem, second_unknown}
use Rattle.resolver.proofs.resolve_mixture.Goals as goal

pub returns-then-not-foreground : goal.returns-then-not-foreground
returns-then-not-foreground c =
    let a = c.args in
    first_unknown_lem a.text.now a.records.now a.index.now a.count a.n (c.wide-at.ensures ∙ c.field.ensures) c.side_at-foreground.ensures c.if-not-foreground.true a.pairs.now

pub returns-then-not-background : goal.returns-then-not-background
returns-then-not-background c =
    let a = c.args in
    second_unknown a.text.now a.records.now a.index.now a.count a.n (c.wide-at.ensures ∙ c.field.ensures) c.side_at-foreground.ensures c.if-not-foreground.false c.past_word-next.ensures c.side_at-background.ensures c.if-not-background.true c.next_word-word.ensures a.pairs.now

pub returns : goal.returns
returns c =
    let a = c.args in
    let put = c.put_pair.ensures in
    both_known a.text.now a.records.now a.index.now a.count a.n (c.wide-at.ensures ∙ c.field.ensures) c.side_at-foreground.ensures c.if-not-foreground.false c.past_word-next.ensures c.side_at-background.ensures c.if-not-background.false a.pairs.now _ put.same put.stands
