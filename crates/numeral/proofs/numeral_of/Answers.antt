-- `numeral::numeral_of` meets its contract: mantissa, exponent and sign give the number.
use Rattle.std.proofs.Common.{Bool, ap, ◌∙◌, ◌+◌, length, arith, length-take}
use Rattle.laws.proofs.ListLaws.{rest_of}
use Rattle.numeral.proofs.NumeralLaws.{numeral_bad, numeral_plain, numeral_powered}
use Rattle.numeral_parts.proofs.PartLaws.{after_most, unsigned_most, index_most}
use Rattle.numeral.specs.Numeral.{number_of}
use Rattle.numeral.specs.Powered.{powered_by}
use Rattle.numeral_parts.specs.Read.{exponent_in, either}
use Rattle.numeral.proofs.numeral_of.Goals as goal

pub slice_bounds-read_mantissa-end : goal.slice_bounds-read_mantissa-end
slice_bounds-read_mantissa-end c = omega (arith, length-take c.index_of-mark.result c.unsigned-body.result.now, index_most (either 101 69) c.unsigned-body.result.now)

pub powered-requires : goal.powered-requires
powered-requires c = omega (arith, after_most _ _ _ c.in-Some.ensures, length-take c.index_of-mark.result c.unsigned-body.result.now, ap length c.unsigned-body.ensures, unsigned_most c.args.word.now, c.well_formed.0)

pub returns-in_default : goal.returns-in_default
returns-in_default c = numeral_bad _ _ _ c.unsigned-body.ensures c.index_of-mark.ensures c.in_default.ensures

pub returns-then-mark-body : goal.returns-then-mark-body
returns-then-mark-body c = c.powered.ensures ∙ (λ i. powered_by (c.is_negative-negative.ensures i) c.in-Some.mantissa.coefficient c.in-Some.mantissa.after (exponent_in (rest_of (c.index_of-mark.result + 1) c.unsigned-body.result.now i))) ∙ numeral_powered _ _ _ c.unsigned-body.ensures c.index_of-mark.ensures _ _ c.in-Some.ensures c.if-mark-body.true

pub returns-else-mark-body : goal.returns-else-mark-body
returns-else-mark-body c = c.nearest.ensures ∙ ap (λ (s : Bool). number_of s c.in-Some.mantissa.coefficient 0 c.in-Some.mantissa.after) c.is_negative-negative.ensures ∙ numeral_plain _ _ _ c.unsigned-body.ensures c.index_of-mark.ensures _ _ c.in-Some.ensures c.if-mark-body.false
