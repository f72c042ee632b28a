-- `name_order::order` meets its contract.
use mathlib.Core.Path.{◌≡◌, ap, sym, ◌∙◌}
use Prim.Native.Nat.{ℕ, min}
use native.Mathlib.Omega.{arith}
use borrow.Author.Rules.{rules}
use lib.ListN.{length, replicate}
use lib.Seq.{length_front, length-take-le}
use Rattle.scene.specs.Record.{filled}
use Rattle.name_order.proofs.RunLaws.{sorted_filled}
use Rattle.name_order.specs.Sort.{earlier, sorted}
use Rattle.name_order.proofs.order.Goals as goal

pub slice_bounds-sort-end-2 : goal.slice_bounds-sort-end-2
slice_bounds-sort-end-2 c = sym (length-take-le c.min-count.result c.fill.new.self (omega arith))

pub slice_bounds-sort-end-4 : goal.slice_bounds-sort-end-4
slice_bounds-sort-end-4 c = sym (length-take-le c.min-count.result c.args.scratch.now (omega arith))

pub sort-requires : goal.sort-requires
sort-requires c =
    let count = c.min-count.result in
    let order = length-take-le count c.fill.new.self (omega arith) in
    let scratch = length-take-le count c.args.scratch.now (omega arith) in
    record { same = order ∙ sym scratch; few = omega (arith, order) }

pub returns : goal.returns
returns c =
    let a = c.args in
    let less = earlier a.text.now a.records.now in
    let n = length a.order.now in
    let count = c.min-count in
    let done = c.sort in
    let is = count.ensures ∙ (λ i. min (c.min-whole.ensures i) (c.min.ensures i)) in
    let blank : c.fill.new.self ≡ replicate n 0 = search rules in
    let put = sorted_filled less n count.result c.fill.new.self done.new.order (omega arith) blank done.ensures in
    let behind : c.fill-2.new.self ≡ replicate _ 0 = search rules in
    let size = length_front a.scratch.now done.new.scratch count.result done.auto.scratch in
    record { order_after = put ∙ ap (λ (m : ℕ). filled 0 n (sorted less m)) is; scratch_after = behind ∙ ap (λ (m : ℕ). replicate m 0) size }
