-- Steps in f64, one rounding each, that have to be finite.
use Rattle.std.specs.Prelude.{false, cond, Float, pos, negsuc}
use Rattle.std.specs.Float.{nan, fin, binary64}
use Rattle.std.specs.Float.Ieee.{add, sub, mul, div}
use Rattle.std.specs.Float.Ieee.Scale.{finite}

-- "20 means: an input or step is NaN or infinite": x where it is finite, and NaN where it is not. A step of a NaN is NaN, so a
-- chain of steps is NaN exactly where one of them failed
unfoldable pub step : Float → Float
step x = cond (finite x) x nan

-- "All steps in f64, one rounding each, in the order written"
abbrev pub ◌⊕◌ : Float → Float → Float
x ⊕ y = step (add binary64 x y)

abbrev pub ◌⊖◌ : Float → Float → Float
x ⊖ y = step (sub binary64 x y)

abbrev pub ◌⊗◌ : Float → Float → Float
x ⊗ y = step (mul binary64 x y)

abbrev pub ◌⊘◌ : Float → Float → Float
x ⊘ y = step (div binary64 x y)

infixl 60 ◌⊕◌ ◌⊖◌
infixl 70 ◌⊗◌ ◌⊘◌
-- the numbers 0, 1 and 0.5 of the formulas
abbrev pub +0 : Float
+0 = fin false 0 (pos 0)

abbrev pub +1 : Float
+1 = fin false 1 (pos 0)

abbrev pub half : Float
half = fin false 1 (negsuc 0)
