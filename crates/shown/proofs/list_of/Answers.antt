-- `shown::list_of` meets its contract.
use mathlib.Core.Bool.{true}
use mathlib.Core.Path.{◌≡◌, ap, sym, ◌∙◌}
use Prim.Native.Nat.{ℕ}
use native.Mathlib.Omega.{arith}
use borrow.Author.Rules.{rules}
use lib.ListN.{length, replicate}
use Rattle.graph.specs.Graph.{graph_of}
use Rattle.shown.proofs.AnswerLaws.{all_listed, all_of_them, list_short, table_unfit, walkable}
use Rattle.shown.specs.List.{table_fits}
use Rattle.shown.proofs.list_of.Goals as goal

pub returns-then-not-table_fits : goal.returns-then-not-table_fits
returns-then-not-table_fits c =
    let t = c.table_fits in
    let a = c.args in
    let u = table_unfit (graph_of a.records.now a.pairs.now) a.count a.number (length a.list.now) (sym t.ensures.value ∙ c.if-not-table_fits.true) in
    let blank : c.fill.new.self ≡ replicate (length a.list.now) 0 = search rules in
    record { value = u.0; list_after = blank ∙ u.1 }

pub walked-total-requires : goal.walked-total-requires
walked-total-requires c =
    let t = c.table_fits in
    let a = c.args in
    walkable (graph_of a.records.now a.pairs.now) c.requires t.ensures.marks_len_unchanged (sym t.ensures.value ∙ c.if-not-table_fits.false)

pub returns-then-list-total : goal.returns-then-list-total
returns-then-list-total c =
    let t = c.table_fits in
    let a = c.args in
    let g = graph_of a.records.now a.pairs.now in
    let fits : table_fits g a.count ≡ true = sym t.ensures.value ∙ c.if-not-table_fits.false in
    let same : length c.walked-total.new.list ≡ length a.list.now = search rules in
    let u = list_short g a.count a.number (length a.list.now) fits (all_of_them g c.requires t.ensures.marks_len_unchanged c.walked-total.ensures) (omega (arith, c.if-list-total.true, same)) in
    let blank : c.fill-then-list-total.new.self ≡ replicate (length c.walked-total.new.list) 0 = search rules in
    record { value = u.0; list_after = blank ∙ ap (λ (k : ℕ). replicate k 0) same ∙ u.1 }

pub returns : goal.returns
returns c =
    let t = c.table_fits in
    let a = c.args in
    let g = graph_of a.records.now a.pairs.now in
    let fits : table_fits g a.count ≡ true = sym t.ensures.value ∙ c.if-not-table_fits.false in
    let same : length c.walked-total.new.list ≡ length a.list.now = search rules in
    let r = all_listed g a.count a.number (length a.list.now) fits (all_of_them g c.requires t.ensures.marks_len_unchanged c.walked-total.ensures) (omega (arith, c.if-list-total.false, same)) in record { value = r.0; list_after = r.1 }
