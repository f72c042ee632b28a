-- `hits::sphere_hit` meets its contract.
use mathlib.Core.Path.{◌∙◌, ap}
use lib.Ieee.{Float}
use Rattle.hits.proofs.LeastLaws.{default_bits}
use Rattle.hits.specs.Sphere.{sphere_hit}
use Rattle.hits.proofs.sphere_hit.Goals as goal

pub returns : goal.returns
returns c = let a = c.args in c.sphere_hit_above.ensures ∙ ap (λ (l : Float). sphere_hit l a.ray a.sphere) default_bits
