-- `grouping::order` meets its contract.
use mathlib.Core.Path.{◌≡◌, sym}
use Prim.Native.Nat.{◌+◌}
use native.Mathlib.Omega.{arith}
use borrow.Author.Rules.{rules}
use lib.ListN.{length, replicate}
use lib.Seq.{length-take-le}
use Rattle.grouping.proofs.FillLaws.{zeros_front, zeros_filled}
use Rattle.grouping.specs.Grouped.{grouped}
use Rattle.grouping.proofs.order.Goals as goal

pub slice_bounds-fill-end : goal.slice_bounds-fill-end
slice_bounds-fill-end c = sym (length-take-le (c.min-count.result + 1) (replicate 1025 0) (omega arith))

pub slice_bounds-fill-end-3 : goal.slice_bounds-fill-end-3
slice_bounds-fill-end-3 c = sym (length-take-le c.min-count.result c.fill.new.self (omega arith))

pub fill-requires-2 : goal.fill-requires-2
fill-requires-2 c = zeros_front 1025 c.min-count.result _ (omega arith) (length-take-le c.min-count.result c.fill.new.self (omega arith))

pub returns : goal.returns
returns c =
    let count = c.min-count in
    let a = c.args in
    let zeros : c.fill.new.self ≡ replicate (length a.order.now) 0 = search rules in
    let done = c.fill-2 in
    zeros_filled _ count.result _ c.fill.new.self done.new.order (grouped _ _) (omega arith) zeros done.auto.order done.ensures count.ensures
