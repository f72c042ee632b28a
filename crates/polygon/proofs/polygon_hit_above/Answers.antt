-- `polygon::polygon_hit_above` meets its contract.
use mathlib.Core.Path.{◌∙◌}
use native.Mathlib.Omega.{arith}
use Rattle.polygon.proofs.HitLaws.{enough, inputs_20, inputs_21, inputs_on}
use lib.Ieee.{of_bits}
use Rattle.polygon.proofs.polygon_hit_above.Goals as goal

pub returns-then-not-finite-is_finite : goal.returns-then-not-finite-is_finite
returns-then-not-finite-is_finite c =
    let a = c.args in
    inputs_20 a.least a.ray a.reals.now c.is_finite_vector.ensures c.is_finite_vector-2.ensures c.all_finite.ensures c.is_finite.ensures c.if-not-finite-is_finite.true-raw

pub returns-then-not-in_range-least : goal.returns-then-not-in_range-least
unfolding of_bits
returns-then-not-in_range-least c =
    let a = c.args in
    inputs_21 a.least a.ray a.reals.now c.is_finite_vector.ensures c.is_finite_vector-2.ensures c.all_finite.ensures c.is_finite.ensures c.if-not-finite-is_finite.false-raw c.if-not-in_range-least.true-raw

pub on_corners-requires : goal.on_corners-requires
unfolding of_bits
on_corners-requires c = let a = c.args in omega (arith, enough a.reals.now a.least c.if-not-in_range-least.false-raw)

pub returns : goal.returns
unfolding of_bits
returns c =
    let a = c.args in
    c.on_corners.ensures ∙ inputs_on a.least a.ray a.reals.now c.is_finite_vector.ensures c.is_finite_vector-2.ensures c.all_finite.ensures c.is_finite.ensures c.if-not-finite-is_finite.false-raw c.if-not-in_range-least.false-raw
