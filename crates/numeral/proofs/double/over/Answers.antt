-- `numeral::double::over` meets its contract: one exact quotient is rounded once.
use Prim.Native.Nat.{◌^◌}
use native.Mathlib.Omega.{arith}
use lib.Dec.{le→leb}
use lib.Ieee.{in_float, of_int}
use Rattle.numeral.proofs.TenLaws.{nearest_over}
use Rattle.numeral.proofs.double.over.Goals as goal

pub int_to_float-result : goal.int_to_float-result
unfolding in_float
int_to_float-result c = le→leb c.args.c (2 ^ 53) (omega arith)

pub returns : goal.returns
unfolding of_int
returns c = nearest_over _ _ c.ten.result (omega arith) c.ten.ensures
