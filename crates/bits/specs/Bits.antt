-- Doubles compared by their bits.
use Rattle.std.specs.Prelude.{Bool, true, false, ◌&&◌, List, [], ◌∷◌, eqb, Float}
use Rattle.std.specs.Float.{binary64}
use Rattle.std.specs.Float.Ieee.{to_bits}

-- "real bits": -0 is not 0
unfoldable pub same_reals : List Float → List Float → Bool
same_reals [] [] = true
same_reals [] (y ∷ ys) = false
same_reals (x ∷ xs) [] = false
same_reals (x ∷ xs) (y ∷ ys) = eqb (to_bits binary64 x) (to_bits binary64 y) && same_reals xs ys
