-- `name_index::names_once` meets its contract.
use mathlib.Core.Path.{◌≡◌, ap, sym, ◌∙◌}
use Prim.Native.Nat.{◌+◌}
use native.Mathlib.Omega.{arith}
use Rattle.name_index.proofs.NameLaws.{found_number, latest_next, latest_none, not_once}
use Rattle.name_index.specs.Names.{count_in, latest_to, number_of_name}
use Rattle.scene.specs.Record.{name_in}
use borrow.Author.Rules.{rules}
use Rattle.name_index.proofs.names_once.Goals as goal
use Rattle.name_index.proofs.names_once.Goals.{After-search-found}

pub loop-row-init : goal.loop-row-init
loop-row-init c = let a = c.args in (search rules, latest_none a.text.now a.records.now)

-- the number found is that of the latest record of the name
number-here : (c : After-search-found) → let a = c.args in c.search-found.result.number ≡ number_of_name a.text.now a.records.now (name_in a.text.now a.records.now (c.loop-row.row + 1))
number-here c =
    let a = c.args in
    found_number a.text.now a.records.now _ _ _ _ _ c.index_names-index.ensures c.name_of.ensures c.search-found.ensures

pub returns-then-found-n : goal.returns-then-found-n
returns-then-found-n c =
    let a = c.args in
    sym (not_once a.text.now a.records.now c.loop-row.row (omega arith) (λ q. c.if-found-n.true (number-here (goal.at.returns-then-found-n c).After-search-found ∙ q)))

pub loop-row-preserved : goal.loop-row-preserved
loop-row-preserved c =
    let a = c.args in
    (search rules, latest_next a.text.now a.records.now c.loop-row.row c.loop-row.invariant.1 (sym (number-here (goal.at.loop-row-preserved c).After-search-found) ∙ c.if-found-n.false))

pub returns : goal.returns
returns c =
    let a = c.args in
    let m = c.count-row-end.ensures in
    let e : c.loop-row.row ≡ count_in a.records.now = omega (arith, c.loop-row.invariant.0) in
    sym c.loop-row.invariant.1 ∙ ap (latest_to a.text.now a.records.now) e
