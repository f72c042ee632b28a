-- `shown::walked` meets its contract.
use native.Mathlib.Omega.{arith}
use lib.ListN.{length}
use Rattle.shown.proofs.ListLaws.{ends_shown}
use Rattle.shown.proofs.walked.Goals as goal

pub materials-requires : goal.materials-requires
materials-requires c =
    let r = c.reach in
    record { marks_nonzero = omega (arith, r.ensures.marks_len_unchanged, c.requires.there); marks_len_bound = omega (arith, r.ensures.marks_len_unchanged, c.requires.small) }

pub returns : goal.returns
returns c =
    let r = c.reach in
    let a = c.args in
    let p = c.requires in
    ends_shown a.records.now a.pairs.now _ (length a.marks.now) a.n (length a.list.now) _ _ p.within p.some p.there (r.ensures.reaches_from p.within p.some p.there) r.ensures.marks_len_unchanged c.materials.ensures
