-- Instances: a tenth, a tie, a value of the other sign, and the limit of a double.
use mathlib.Core.Bool.{true, false}
use mathlib.Core.Path.{◌≡◌, refl, subst}
use Prim.Native.Nat.{◌+◌, ◌-◌, ◌*◌, ◌^◌}
use lib.Dec.{lit≤, lit<}
use lib.Ieee.{fin, inf, binary64, round}
use lib.IntN.{pos, negsuc}
use Rattle.rounding.specs.Nearest.{limit, off, Nearest}
use Rattle.rounding.proofs.LimitLaws.{round_rounded}

tenth_is : round binary64 false 1 10 ≡ fin false 3602879701896397 (negsuc 54)
unfolding round
tenth_is = refl

tenth : Nearest binary64 false 1 10 (fin false 3602879701896397 (negsuc 54))
tenth = subst (Nearest binary64 false 1 10) tenth_is ((round_rounded binary64 false 1 10 (lit< tt)).below (lit< tt))

-- 2 ^ 53 + 1 lies between 2 ^ 53 and 2 ^ 53 + 2
tie_is : round binary64 true (2 ^ 53 + 1) 1 ≡ fin true 1 (pos 53)
unfolding round
tie_is = refl

down_by_one : off true (2 ^ 53 + 1) 1 (fin true 1 (pos 53)) ≡ 1
down_by_one = refl

up_by_one : off true (2 ^ 53 + 1) 1 (fin true (2 ^ 52 + 1) (pos 1)) ≡ 1
up_by_one = refl

other_sign : off true (2 ^ 53 + 1) 1 (fin false 3 (pos 0)) ≡ 2 ^ 53 + 4
other_sign = refl

at_limit : round binary64 true ((2 ^ 54 - 1) * 2 ^ 970) 1 ≡ inf true
at_limit = (round_rounded binary64 true ((2 ^ 54 - 1) * 2 ^ 970) 1 (lit< tt)).beyond (lit≤ tt)

limit_is : limit binary64 ≡ 2 ^ 1024 - 2 ^ 970
limit_is = refl

below_limit : round binary64 true ((2 ^ 54 - 1) * 2 ^ 970 - 1) 1 ≡ fin true (2 ^ 53 - 1) (pos 971)
unfolding round
below_limit = refl
