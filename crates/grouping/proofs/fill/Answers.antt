-- `grouping::fill` meets its contract.
use mathlib.Core.Path.{◌∙◌, ap}
use Prim.Native.Nat.{◌<◌}
use native.Mathlib.Omega.{arith}
use lib.ListN.{length}
use Rattle.grouping.proofs.FillLaws.{chosen_within, filling_all, filling_more, filling_none}
use Rattle.grouping.specs.Grouped.{grouped}
use Rattle.table.proofs.QuestionLaws.{type_field}
use Rattle.grouping.proofs.fill.Goals as goal
use Rattle.grouping.proofs.fill.Goals.{After-field-last}

pub loop-entry-init : goal.loop-entry-init
loop-entry-init c = filling_none _ _ _ _ c.requires

pub next-n-requires : goal.next-n-requires
next-n-requires c = c.loop-entry.invariant.known

-- the number that comes next has a place in the table
in_table : (c : After-field-last) → c.next-n.result < length c.next-n.new.seen
in_table c = chosen_within _ _ _ _ _ _ c.loop-entry.invariant (omega arith) _ _ c.next-n.ensures

pub offset_bounds-seen-n : goal.offset_bounds-seen-n
offset_bounds-seen-n c = omega (arith, in_table (goal.at.offset_bounds-seen-n c).After-field-last)

pub bounds-seen-n : goal.bounds-seen-n
bounds-seen-n c = in_table (goal.at.bounds-seen-n c).After-field-last

pub loop-entry-preserved : goal.loop-entry-preserved
loop-entry-preserved c =
    let n = c.next-n.ensures in
    let l = c.loop-entry.invariant in
    filling_more _ _ _ _ _ _ l (omega arith) _ _ n _ (c.field-last.ensures ∙ type_field _ _)

pub returns : goal.returns
returns c = filling_all _ _ _ _ _ _ c.loop-entry.invariant (omega arith) ∙ ap (grouped _ _) (omega arith)
