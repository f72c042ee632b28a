-- Which distances along a ray count.
use Rattle.std.specs.Prelude.{Bool, false, Float}
use Rattle.std.specs.Float.{binary64}
use Rattle.std.specs.Float.Ieee.{lt, round}

-- "Hits now need a distance above a least one": what the ray meets at that distance or before it is no hit
unfoldable pub ahead : (least t : Float) → Bool
ahead l t = lt l t

-- "the default becomes 0.001": the double nearest to it
unfoldable pub default_least : Float
default_least = round binary64 false 1 1000
