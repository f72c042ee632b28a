-- `comparison::next_name` meets its contract.
use mathlib.Core.Bool.{false, ◌&&◌}
use mathlib.Core.Path.{◌≡◌}
use lib.Dec.{eqb}
use Rattle.keys.proofs.ScanLaws.{least_name}
use Rattle.comparison.proofs.StepLaws.{name_none, name_some, one_left, one_right}
use Rattle.comparison.proofs.next_name.Goals as goal
use Rattle.comparison.proofs.next_name.Goals.{Joined-else-m-eq0, else-m-eq0-via-then-m-eq0+else-n-eq0, else-m-eq0-via-else-m-eq0}

-- one of both numbers is not 0
one_lem : (c : Joined-else-m-eq0) → (eqb c.least_above-m.result 0 && eqb c.least_above-n.result 0) ≡ false
one_lem c =
    elim c.else-m-eq0.branch [ else-m-eq0-via-then-m-eq0+else-n-eq0 w ↦ one_right _ _ w.if-n-eq0.false | else-m-eq0-via-else-m-eq0 w ↦ one_left _ _ w.if-m-eq0.false ]

pub returns-then-n-eq0 : goal.returns-then-n-eq0
returns-then-n-eq0 c =
    let a = c.args in
    name_none a.left.text.now a.left.records.now a.right.text.now a.right.records.now a.name.now c.least_above-m.result c.least_above-n.result (least_name a.left.text.now a.left.records.now a.name.now _ c.least_above-m.ensures) (least_name a.right.text.now a.right.records.now a.name.now _ c.least_above-n.ensures) c.if-m-eq0.true c.if-n-eq0.true

pub returns : goal.returns
returns c =
    let a = c.args in
    name_some a.left.text.now a.left.records.now a.right.text.now a.right.records.now a.name.now c.least_above-m.result c.least_above-n.result (least_name a.left.text.now a.left.records.now a.name.now _ c.least_above-m.ensures) (least_name a.right.text.now a.right.records.now a.name.now _ c.least_above-n.ensures) (one_lem (goal.at.returns c).Joined-else-m-eq0) _ _ c.lesser.ensures c.at_key.ensures
