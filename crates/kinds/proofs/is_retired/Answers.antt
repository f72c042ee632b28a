-- `kinds::is_retired` meets its contract.
use mathlib.Core.Path.{◌≡◌, ap, sym}
use Prim.Native.Nat.{ℕ}
use lib.Dec.{eqb}
use Rattle.laws.specs.Bytes.{same}
use Rattle.scene.specs.Types.{is_retired, number_from, type_number}
use Rattle.scene.specs.declared.Mode.{Mode}
use Rattle.scene.specs.declared.Mode.TheVariants.{New}
use Rattle.kinds.proofs.is_retired.Goals as goal

antimatter : (m : Mode) (t : ℕ) → m ≡ New → eqb t 24 ≡ is_retired m t
unfolding type_number number_from same
antimatter m t e = sym (ap (λ (x : Mode). is_retired x t) e)

pub returns-in-New : goal.returns-in-New
returns-in-New c = antimatter _ _ c.in-New.is
