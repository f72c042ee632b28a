-- The root of a double, worked out over whole numbers.
use Rattle.std.specs.Prelude.{false, cond, ℕ, zero, suc, ◌+◌, ◌-◌, ◌*◌, ◌/◌, ◌^◌, leb, Float}
use Rattle.std.specs.Float.{nan, inf, fin}
use Rattle.std.specs.Float.Ieee.{up, down, size, odd}
use Rattle.steps.specs.Step.{+0}

-- the whole root of an n below 4 ^ k, its k binary digits one after the other
unfoldable pub whole_root : (k n : ℕ) → ℕ
whole_root zero n = 0
whole_root (suc k) n = let t = whole_root k (n / 4) in cond (leb ((t * 2 + 1) * (t * 2 + 1)) n) (t * 2 + 1) (t * 2)

-- the size of a finite value, in units of the least double, 2 ^ -1074
abbrev pub units_of : Float → ℕ
units_of nan = 0
units_of (inf s) = 0
units_of (fin s m e) = m * up e * 2 ^ 1074 / down e

-- the root, in units, of n: n is cut by an even count of binary digits to 105 or 106 of them, whose whole root has the 53 digits
-- of a double
unfoldable pub root_units : ℕ → Float
root_units n = let b = (size n - 105) / 2 in odd 53 false (whole_root 53 (n / 4 ^ b)) b 1074

-- "The root of x is the largest double whose exact square is at most x; of either zero, +0." That of u units is the root, in
-- units, of u * 2 ^ 1074. A NaN, an infinity and what is below 0 have none: NaN
unfoldable pub root_of : Float → Float
root_of nan = nan
root_of (inf s) = nan
root_of (fin s zero e) = +0
root_of (fin s (suc m) e) = cond s nan (root_units (units_of (fin s (suc m) e) * 2 ^ 1074))
