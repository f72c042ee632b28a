-- `name_index::enter` meets its contract.
use mathlib.Core.Path.{ap, ◌∙◌}
use lib.ListN.{set}
use Rattle.index.specs.Searches.{sought}
use Rattle.index.specs.declared.Found.{Found}
use Rattle.name_index.proofs.enter.Goals as goal

pub returns : goal.returns
returns c =
    let a = c.args in
    let x = a.index.now in
    c.put.ensures
    ∙ ap (λ (f : Found). set x f.entry a.n) (c.search-found.ensures ∙ ap (sought a.text.now a.records.now x a.n) c.name_of.ensures)
