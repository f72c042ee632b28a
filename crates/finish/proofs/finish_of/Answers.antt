-- `finish::finish_of` meets its contract.
use mathlib.Core.Path.{◌∙◌, ap}
use Prim.Native.Nat.{ℕ}
use Rattle.finish.proofs.WalkLaws.{finish_refused, finish_walked}
use Rattle.finish.specs.Finish.{Refused}
use Rattle.table.proofs.RefusalLaws.{refused_number, taken_number}
use Rattle.finish.proofs.finish_of.Goals as goal

pub returns-in-Ok : goal.returns-in-Ok
returns-in-Ok c =
    let a = c.args in
    c.walk.ensures ∙ finish_walked a.records.now a.count a.number a.allowance (taken_number c.number_refusal.result _ _ c.in-Ok.is c.number_refusal.ensures)

pub returns-in-Err : goal.returns-in-Err
returns-in-Err c =
    let a = c.args in
    let known = refused_number c.number_refusal.result c.in-Err.reason _ c.in-Err.is c.number_refusal.ensures in
    ap (λ (r : ℕ). Refused r 0) known.0 ∙ finish_refused a.records.now a.count a.number a.allowance known.1
