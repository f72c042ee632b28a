-- `shown::list_shown` meets its contract.
use mathlib.Core.Path.{◌≡◌, refl, sym, ◌∙◌}
use Prim.Native.Nat.{◌+◌, ◌≤◌}
use native.Mathlib.Omega.{arith}
use borrow.Author.Rules.{rules}
use lib.ListN.{length, length-take, replicate}
use Rattle.shown.proofs.AnswerLaws.{number_refused, number_taken}
use Rattle.shown.proofs.FitLaws.{numbered}
use Rattle.table.proofs.RefusalLaws.{refused_number, taken_number}
use Rattle.shown.proofs.list_shown.Goals as goal
use Rattle.shown.proofs.list_shown.Goals.{In-Ok}

pub returns-in-Err : goal.returns-in-Err
returns-in-Err c =
    let a = c.args in
    let known = refused_number c.pair_refusal.result c.in-Err.reason _ c.in-Err.is c.pair_refusal.ensures in
    let u = number_refused a.records.now a.pairs.now a.count a.number (length a.list.now) known.0 (λ z. known.1 (sym known.0 ∙ z)) in
    let blank : c.fill.new.self ≡ replicate (length a.list.now) 0 = search rules in
    record { value = u.0; list_after = blank ∙ u.1 }

-- a number that is not refused leaves few primitives
few : (c : In-Ok) → c.args.count ≤ 1024
few c =
    let a = c.args in
    (numbered a.records.now a.pairs.now a.count a.number (taken_number c.pair_refusal.result _ _ c.in-Ok.is c.pair_refusal.ensures) refl).few

pub overflow_add-marks : goal.overflow_add-marks
overflow_add-marks c = record { fits = omega (arith, few (goal.at.overflow_add-marks c).In-Ok) }

pub slice_bounds-marks-end : goal.slice_bounds-marks-end
slice_bounds-marks-end c = omega (arith, few (goal.at.slice_bounds-marks-end c).In-Ok)

pub slice_bounds-list_of-end : goal.slice_bounds-list_of-end
slice_bounds-list_of-end c = let a = c.args in sym (length-take (a.count + 1) (replicate 1025 0) ∙ (let h = few (goal.at.slice_bounds-list_of-end c).In-Ok in omega arith))

pub list_of-requires : goal.list_of-requires
list_of-requires c =
    let a = c.args in
    numbered a.records.now a.pairs.now a.count a.number (taken_number c.pair_refusal.result _ _ c.in-Ok.is c.pair_refusal.ensures) (length-take (a.count + 1) (replicate 1025 0) ∙ (let h = few (goal.at.list_of-requires c).In-Ok in omega arith))

pub returns-in-Ok : goal.returns-in-Ok
returns-in-Ok c =
    let a = c.args in
    let taken = taken_number c.pair_refusal.result _ _ c.in-Ok.is c.pair_refusal.ensures in
    let u = number_taken a.records.now a.pairs.now a.count a.number (length a.list.now) (sym taken) refl in
    record { value = c.list_of.ensures.value ∙ u.0; list_after = c.list_of.ensures.list_after ∙ u.1 }
