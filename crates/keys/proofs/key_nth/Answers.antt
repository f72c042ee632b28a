-- `keys::key_nth` meets its contract.
use mathlib.Core.Path.{ap, sym}
use native.Mathlib.Omega.{arith}
use Rattle.keys.proofs.ScanLaws.{key_none, count_most, key_count}
use Rattle.keys.specs.Key.{Key}
use Rattle.keys.proofs.key_nth.Goals as goal

pub returns-then-k-eq0 : goal.returns-then-k-eq0
returns-then-k-eq0 c =
    let a = c.args in
    sym (ap (λ (k : Key). k.nth) (key_none a.text.now a.records.now a.n _ c.within-k.ensures c.if-k-eq0.true))

pub overflow_add-result : goal.overflow_add-result
overflow_add-result c =
    let a = c.args in
    omega (arith, count_most a.text.now a.records.now _ _ _ c.times.ensures, c.if-k-eq0.false)

pub returns : goal.returns
returns c =
    let a = c.args in
    key_count a.text.now a.records.now a.n _ c.within-k.ensures _ _ c.if-k-eq0.false c.name_of.ensures c.times.ensures
