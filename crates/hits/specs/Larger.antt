-- "A larger least distance never turns a miss into a hit", for all shapes at once.
use Rattle.std.specs.Prelude.{true, cond, ◌≡◌, Float}
use Rattle.std.specs.Float.Ieee.{le}
use Rattle.std.specs.Float.Ieee.Scale.{finite}
use Rattle.hits.specs.Outcome.{miss, refused}
use Rattle.hits.specs.Shape.{Shape, hit_above}

-- a miss stays a miss; an infinite least distance is refused, as it always is
abbrev pub LargerLaw : Type 0
LargerLaw = (s : Shape) (l m : Float) → le l m ≡ true → hit_above l s ≡ miss → hit_above m s ≡ cond (finite m) miss (refused 20)
