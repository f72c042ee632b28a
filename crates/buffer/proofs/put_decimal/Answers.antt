-- `buffer::put_decimal` meets its contract.
use mathlib.Core.Path.{◌∙◌}
use Prim.Native.Nat.{◌-◌}
use native.Mathlib.Omega.{arith}
use lib.ListN.{drop, length-drop}
use lib.Seq.{take_all}
use Rattle.buffer.proofs.DecimalLaws.{decimal_zero, decimal_digits}
use Rattle.buffer.proofs.put_decimal.Goals as goal

pub returns-then-n-eq0 : goal.returns-then-n-eq0
returns-then-n-eq0 c = record { out_after = rw (decimal_zero c.args.n c.if-n-eq0.true) c.put_bytes.ensures.out_after; value = rw (decimal_zero c.args.n c.if-n-eq0.true) c.put_bytes.ensures.value }

pub returns : goal.returns
returns c =
    let n = c.args.n in
    let spelt = c.spell-start in
    let digits = drop spelt.result spelt.new.text in
    let all = take_all (20 - spelt.result) digits (omega (arith, length-drop spelt.result spelt.new.text)) in
    record { out_after = rw (← (all ∙ spelt.ensures.text_after ∙ decimal_digits 20 n (omega arith) (omega arith))) c.put_bytes-2.ensures.out_after; value = rw (← (all ∙ spelt.ensures.text_after ∙ decimal_digits 20 n (omega arith) (omega arith))) c.put_bytes-2.ensures.value }
