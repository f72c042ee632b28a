-- `matching::same_row` meets its contract.
use Rattle.matching.proofs.MatchLaws.{aliases_agree, modifiers_differ, reals_decide, rests_differ, targets_differ}
use Rattle.matching.proofs.same_row.Goals as goal

pub returns-then-not-same_link : goal.returns-then-not-same_link
returns-then-not-same_link c =
    let a = c.args in
    modifiers_differ a.a.text.now a.a.records.now a.a.reals.now a.m a.b.text.now a.b.records.now a.b.reals.now a.n _ c.same_link.ensures c.if-not-same_link.true-raw

pub returns-then-not-same_link-2 : goal.returns-then-not-same_link-2
returns-then-not-same_link-2 c =
    let a = c.args in
    targets_differ a.a.text.now a.a.records.now a.a.reals.now a.m a.b.text.now a.b.records.now a.b.reals.now a.n _ c.same_link.ensures c.if-not-same_link.false-raw _ c.same_link-2.ensures c.if-not-same_link-2.true-raw

pub returns-then-number-ne0 : goal.returns-then-number-ne0
returns-then-number-ne0 c =
    let a = c.args in
    aliases_agree a.a.text.now a.a.records.now a.a.reals.now a.m a.b.text.now a.b.records.now a.b.reals.now a.n _ c.same_link.ensures c.if-not-same_link.false-raw _ c.same_link-2.ensures c.if-not-same_link-2.false-raw _ c.number.ensures c.if-number-ne0.true

pub returns-then-not-same_but_links : goal.returns-then-not-same_but_links
returns-then-not-same_but_links c =
    let a = c.args in
    rests_differ a.a.text.now a.a.records.now a.a.reals.now a.m a.b.text.now a.b.records.now a.b.reals.now a.n _ c.same_link.ensures c.if-not-same_link.false-raw _ c.same_link-2.ensures c.if-not-same_link-2.false-raw _ c.number.ensures c.if-number-ne0.false _ c.same_but_links.ensures c.if-not-same_but_links.true-raw

pub returns : goal.returns
returns c =
    let a = c.args in
    reals_decide a.a.text.now a.a.records.now a.a.reals.now a.m a.b.text.now a.b.records.now a.b.reals.now a.n _ c.same_link.ensures c.if-not-same_link.false-raw _ c.same_link-2.ensures c.if-not-same_link-2.false-raw _ c.number.ensures c.if-number-ne0.false _ c.same_but_links.ensures c.if-not-same_but_links.false-raw _ c.same_reals.ensures
