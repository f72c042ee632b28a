-- `hits::ring_hit` meets its contract.
use mathlib.Core.Path.{◌∙◌, ap}
use lib.Ieee.{Float}
use Rattle.hits.proofs.LeastLaws.{default_bits}
use Rattle.hits.specs.Ring.{ring_hit}
use Rattle.hits.proofs.ring_hit.Goals as goal

pub returns : goal.returns
returns c = let a = c.args in c.ring_hit_above.ensures ∙ ap (λ (l : Float). ring_hit l a.ray a.ring) default_bits
