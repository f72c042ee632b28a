-- `ranks::order_names` meets its contract.
use native.Mathlib.Omega.{arith}
use lib.ListN.{length}
use Rattle.ranks.proofs.CountLaws.{table_ordered}
use Rattle.ranks.proofs.order_names.Goals as goal

pub returns-clause-table_after : goal.returns-clause-table_after
returns-clause-table_after c =
    let a = c.args in
    let halves = c.split_at_mut-order.ensures in
    table_ordered a.text.now a.records.now (length a.table.now) (length a.scratch.now) _ _ _ _ halves.front_len (omega (arith, halves.back_len)) c.order.ensures.order_after c.ranks.ensures
