-- The house rules on numbers, each with the real that completes a breach.
use Rattle.std.specs.Prelude.{Bool, false, not, ◌&&◌, ◌||◌, List, [], ◌∷◌, ℕ, ◌-◌, eqb, Float, pos, length, get_or}
use Prim.Native.String.{String}
use Rattle.std.specs.Float.{fin}
use Rattle.std.specs.Float.Ieee.{lt, le, eq}
use Rattle.laws.specs.Bytes.{bytes}
use Rattle.scene.specs.Types.{type_number}

-- +0; the tests are numeric, so -0 is zero too
abbrev pub zero_real : Float
zero_real = fin false 0 (pos 0)

unfoldable pub is_above0 : Float → Bool
is_above0 x = lt zero_real x

unfoldable pub is_at_least0 : Float → Bool
is_at_least0 x = le zero_real x

unfoldable pub is0 : Float → Bool
is0 x = eq x zero_real

-- what a rule asks of a real, of it and the one before, or of it and the two before
pub data HouseRule : Type 0 where
  above0 at_least0 above_inner not_both0 not_all0 : HouseRule

abbrev pub breaks : HouseRule → (x previous first : Float) → Bool
breaks above0 x y z = not (is_above0 x)
breaks at_least0 x y z = not (is_at_least0 x)
breaks above_inner x y z = not (lt y x)
breaks not_both0 x y z = is0 x && is0 y
breaks not_all0 x y z = is0 x && is0 y && is0 z

pub record House : Type 0 where
  pub type : ℕ
  pub real : ℕ
  pub rule : HouseRule

abbrev house : String → ℕ → HouseRule → House
house n k r = record { type = type_number (bytes n); real = k; rule = r }

-- a type, which of its reals completes the breach, and the rule
abbrev pub house_rules : List House
house_rules =
    -- "radii of sphere, bubble, cylinder, tube above 0"
    house "sphere" 4 above0
    ∷ house "bubble" 4 above0
    ∷ house "cylinder" 7 above0
    ∷ house "tube" 7 above0
    -- "cone and cup radii at least 0 and not both 0"
    ∷ house "cone" 7 at_least0
    ∷ house "cone" 8 at_least0
    ∷ house "cone" 8 not_both0
    ∷ house "cup" 7 at_least0
    ∷ house "cup" 8 at_least0
    ∷ house "cup" 8 not_both0
    -- "ring inner radius at least 0, outer above inner"
    ∷ house "ring" 7 at_least0
    ∷ house "ring" 8 above_inner
    -- "directions of source and ring not all zero"
    ∷ house "source" 3 not_all0
    ∷ house "ring" 6 not_all0
    -- "refractive indices of dielectric (4th real), interface (4th, 8th) and glass (4th, if given) above 0"
    ∷ house "dielectric" 4 above0
    ∷ house "interface" 4 above0
    ∷ house "interface" 8 above0
    ∷ house "glass" 4 above0
    -- "both roughnesses of the three "2" types above 0"
    ∷ house "plastic2" 5 above0
    ∷ house "plastic2" 6 above0
    ∷ house "metal2" 5 above0
    ∷ house "metal2" 6 above0
    ∷ house "trans2" 5 above0
    ∷ house "trans2" 6 above0
    ∷ []

-- the k-th of the reals, from 1
unfoldable pub real_at : List Float → ℕ → Float
real_at rs k = get_or rs (k - 1) zero_real

-- whether real number `count` of a type, after `previous` and before that `first`, breaks a rule of the list
unfoldable pub breach_at : List House → (type count : ℕ) → (x previous first : Float) → Bool
breach_at [] t k x y z = false
breach_at (h ∷ hs) t k x y z = eqb h.type t && eqb h.real k && breaks h.rule x y z || breach_at hs t k x y z

-- "16 breaks a house rule": whether the last of a type's reals so far completes a breach
unfoldable pub breach : ℕ → List Float → Bool
breach t rs = let k = length rs in breach_at house_rules t k (real_at rs k) (real_at rs (k - 1)) (real_at rs (k - 2))
