-- `comparison::at_key` meets its contract.
use mathlib.Core.Bool.{false, ◌&&◌}
use mathlib.Core.Path.{◌≡◌}
use native.Mathlib.Omega.{arith}
use lib.Dec.{eqb}
use Rattle.comparison.proofs.StepLaws.{at_none, at_fits, at_some, one_left, one_right}
use Rattle.comparison.proofs.at_key.Goals as goal
use Rattle.comparison.proofs.at_key.Goals.{Joined-else-m-eq0, else-m-eq0-via-then-m-eq0+else-n-eq0, else-m-eq0-via-else-m-eq0}

-- one of both numbers is not 0
one_lem : (c : Joined-else-m-eq0) → (eqb c.number_of_key-m.result 0 && eqb c.number_of_key-n.result 0) ≡ false
one_lem c =
    elim c.else-m-eq0.branch [ else-m-eq0-via-then-m-eq0+else-n-eq0 w ↦ one_right _ _ w.if-n-eq0.false | else-m-eq0-via-else-m-eq0 w ↦ one_left _ _ w.if-m-eq0.false ]

pub returns-then-n-eq0 : goal.returns-then-n-eq0
returns-then-n-eq0 c =
    let a = c.args in
    at_none a.left.text.now a.left.records.now a.right.text.now a.right.records.now a.name.now a.above _ _ c.number_of_key-m.ensures c.number_of_key-n.ensures c.if-m-eq0.true c.if-n-eq0.true

pub overflow_add-result : goal.overflow_add-result
overflow_add-result c =
    let a = c.args in
    omega (arith, at_fits a.left.text.now a.left.records.now a.right.text.now a.right.records.now a.name.now a.above _ _ c.number_of_key-m.ensures c.number_of_key-n.ensures (one_lem (goal.at.overflow_add-result c).Joined-else-m-eq0))

pub returns : goal.returns
returns c =
    let a = c.args in
    at_some a.left.text.now a.left.records.now a.right.text.now a.right.records.now a.name.now a.above _ _ c.number_of_key-m.ensures c.number_of_key-n.ensures (one_lem (goal.at.returns c).Joined-else-m-eq0)
