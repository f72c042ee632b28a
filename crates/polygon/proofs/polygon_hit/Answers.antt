-- `polygon::polygon_hit` meets its contract.
use mathlib.Core.Path.{◌∙◌, ap}
use lib.Ieee.{Float}
use Rattle.hits.proofs.LeastLaws.{default_bits}
use Rattle.polygon.specs.Polygon.{polygon_hit}
use Rattle.polygon.proofs.polygon_hit.Goals as goal

pub returns : goal.returns
returns c = let a = c.args in c.polygon_hit_above.ensures ∙ ap (λ (l : Float). polygon_hit l a.ray a.reals.now) default_bits
