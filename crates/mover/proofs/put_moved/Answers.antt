-- `mover::put_moved` meets its contract.
use mathlib.Core.Path.{ap, sym, refl, ◌∙◌}
use Prim.Native.Nat.{ℕ}
use lib.ListN.{length-replicate}
use Rattle.mover.proofs.AnswerLaws.{moved_all, moved_refused}
use Rattle.table.proofs.RefusalLaws.{reason_above}
use Rattle.mover.specs.Code.{number_of}
use Rattle.mover.proofs.put_moved.Goals as goal

pub returns-in-Err : goal.returns-in-Err
returns-in-Err c =
    let a = c.args in
    moved_refused a.direction a.text.now a.records.now a.room a.count a.out.now _ (length-replicate {A = ℕ} 65536 0) c.put_all-end.ensures c.moved_reals-reals.ensures (ap number_of (sym c.in-Err.is) ∙ c.check_moved.ensures) refl (reason_above c.in-Err.reason)

pub returns : goal.returns
returns c =
    let a = c.args in
    moved_all a.direction a.text.now a.records.now a.room a.count a.out.now _ (length-replicate {A = ℕ} 65536 0) c.put_all-end.ensures c.moved_reals-reals.ensures c.check_moved.ensures (ap number_of c.in_default.is) c.part.ensures c.put_bytes.ensures.out_after
