-- `index::search` meets its contract.
use mathlib.Core.Path.{sym, ◌∙◌}
use lib.ListN.{length}
use Rattle.index.proofs.SearchLaws.{sought_indexed, sought_plain}
use Rattle.index.proofs.search.Goals as goal

pub returns-then-index-lt-ENTRIES : goal.returns-then-index-lt-ENTRIES
returns-then-index-lt-ENTRIES c =
    let a = c.args in
    (λ i. record { entry = length a.index.now; number = c.find.ensures i; looked = 0 }) ∙ sym (sought_plain a.text.now a.records.now a.index.now a.count a.word.now c.if-index-lt-ENTRIES.true)

pub returns : goal.returns
returns c =
    let a = c.args in
    c.probe.ensures ∙ sym (sought_indexed a.text.now a.records.now a.index.now a.count a.word.now c.if-index-lt-ENTRIES.false)
