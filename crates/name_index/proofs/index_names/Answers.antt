-- `name_index::index_names` meets its contract.
use mathlib.Core.Path.{◌≡◌, ap, sym, ◌∙◌}
use native.Mathlib.Omega.{arith}
use Rattle.index.specs.Index.{index_by}
use Rattle.name_index.proofs.NameLaws.{entered_next, index_sized}
use Rattle.name_index.specs.Names.{count_in, rows}
use borrow.Author.Rules.{rules}
use Rattle.name_index.proofs.index_names.Goals as goal

pub loop-n-init : goal.loop-n-init
unfolding index_by
loop-n-init c = search rules

pub slice_bounds-enter-end : goal.slice_bounds-enter-end
slice_bounds-enter-end c =
    let a = c.args in
    sym (index_sized a.text.now a.records.now _ c.loop-n.n c.loop-n.invariant.1 (omega (arith, c.loop-n.invariant.0)))

pub loop-n-preserved : goal.loop-n-preserved
loop-n-preserved c =
    let a = c.args in
    (search rules, c.enter.ensures ∙ entered_next a.text.now a.records.now _ c.loop-n.n c.loop-n.invariant.1 (omega (arith, c.loop-n.invariant.0)))

pub returns : goal.returns
returns c =
    let a = c.args in
    let m = c.count-n-end.ensures in
    let e : c.loop-n.n ≡ count_in a.records.now = omega (arith, c.loop-n.invariant.0) in
    c.loop-n.invariant.1 ∙ ap (index_by (rows a.text.now a.records.now)) e
