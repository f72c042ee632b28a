-- `pair::read_both` meets its contract.
use mathlib.Core.Path.{ap, ◌∙◌}
use Prim.Native.Nat.{ℕ}
use lib.ListN.{replicate}
use Rattle.scene.specs.HouseRules.{zero_real}
use Rattle.pair.proofs.BothLaws.{left_refused, right_refused, both_read}
use Rattle.pair.proofs.read_both.Goals as goal

pub returns-in-Err : goal.returns-in-Err
returns-in-Err c =
    let a = c.args in
    left_refused a.mode a.left.now a.left_records.now a.left_reals.now a.right.now a.right_records.now a.right_reals.now _ _ _ _ _ _ (rw c.in-Err.is at c.read_with_own_tables.ensures) c.clear.ensures.records_after c.clear.ensures.reals_after

pub returns-in-Err-read_with_own_tables : goal.returns-in-Err-read_with_own_tables
returns-in-Err-read_with_own_tables c =
    let a = c.args in
    right_refused a.mode a.left.now a.left_records.now a.left_reals.now a.right.now a.right_records.now a.right_reals.now _ _ _ _ _ _ _ _ _ _ (rw c.in-Ok.is at c.read_with_own_tables.ensures) (rw c.in-Err-read_with_own_tables.is at c.read_with_own_tables-in-Ok.ensures) (c.clear-in-Err-read_with_own_tables.ensures.records_after ∙ ap (λ (n : ℕ). replicate n 0) c.read_with_own_tables.auto.records) (c.clear-in-Err-read_with_own_tables.ensures.reals_after ∙ ap (λ (n : ℕ). replicate n zero_real) c.read_with_own_tables.auto.reals)

pub returns-in-Ok-read_with_own_tables : goal.returns-in-Ok-read_with_own_tables
returns-in-Ok-read_with_own_tables c =
    let a = c.args in
    both_read a.mode a.left.now a.left_records.now a.left_reals.now a.right.now a.right_records.now a.right_reals.now _ _ _ _ _ _ _ _ (rw c.in-Ok.is at c.read_with_own_tables.ensures) (rw c.in-Ok-read_with_own_tables.is at c.read_with_own_tables-in-Ok.ensures)
