-- `buffer::put_bytes` meets its contract.
use mathlib.Core.Path.{refl, ◌∙◌}
use native.Mathlib.Omega.{arith}
use native.Mathlib.Numerals.{add-one}
use lib.ListN.{length-set}
use lib.Seq.{paste-zero, paste-suc}
use Rattle.buffer.proofs.PutLaws.{pasted}
use Rattle.buffer.proofs.put_bytes.Goals as goal

pub loop-i-init : goal.loop-i-init
loop-i-init c = let a = c.args in (refl, paste-zero a.out.now c.min-start.result a.new.now)

pub loop-i-preserved : goal.loop-i-preserved
loop-i-preserved c =
    let l = c.loop-i in
    let a = c.args in
    (simp length-set l.invariant.0, rw (l.invariant.1, add-one) (paste-suc a.out.now c.min-start.result a.new.now l.i _ (omega arith) (omega arith)))

pub returns : goal.returns
returns c =
    let l = c.loop-i in
    let a = c.args in
    record { out_after = l.invariant.1 ∙ pasted a.out.now a.at a.new.now c.min-start.result l.i c.min-start.ensures (omega arith); value = omega arith }
