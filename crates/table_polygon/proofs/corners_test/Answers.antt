-- `table_polygon::corners_test` meets its contract.
use native.Mathlib.Omega.{arith}
use Rattle.table_polygon.proofs.TableLaws.{corners_lent, corners_outside, type_other}
use Rattle.table_polygon.proofs.corners_test.Goals as goal

pub returns-then-kind-ne-POLYGON : goal.returns-then-kind-ne-POLYGON
returns-then-kind-ne-POLYGON c = let a = c.args in type_other a.kind a.real a.n a.lent c.if-kind-ne-POLYGON.true

pub returns-then-lent-real : goal.returns-then-lent-real
returns-then-lent-real c = let a = c.args in corners_outside a.kind a.real a.n a.lent c.if-kind-ne-POLYGON.false (omega arith)

pub returns-then-lent-real-2 : goal.returns-then-lent-real-2
returns-then-lent-real-2 c = let a = c.args in corners_outside a.kind a.real a.n a.lent c.if-kind-ne-POLYGON.false (omega arith)

pub returns : goal.returns
returns c = let a = c.args in corners_lent a.kind a.real a.n a.lent c.if-kind-ne-POLYGON.false (omega arith)
