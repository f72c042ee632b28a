-- `numeral::powered` meets its contract: each case of the exponent.
use Rattle.std.proofs.Common.{ap, ◌∙◌, arith}
use Rattle.numeral_parts.proofs.PartLaws.{exponent_below}
use Rattle.numeral.specs.Powered.{powered_by}
use Rattle.numeral.proofs.powered.Goals as goal

pub overflow_add-number : goal.overflow_add-number
overflow_add-number c = omega (arith, exponent_below c.args.word.now _ (rw c.in-Some-Down.field-0-is at c.in-Some-Down.ensures))

pub returns-in-None : goal.returns-in-None
returns-in-None c = ap (powered_by c.args.negative c.args.m.coefficient c.args.m.after) c.in-None.ensures

pub returns-in-Some-Up : goal.returns-in-Some-Up
returns-in-Some-Up c = c.nearest.ensures ∙ ap (powered_by c.args.negative c.args.m.coefficient c.args.m.after) (rw c.in-Some-Up.field-0-is at c.in-Some-Up.ensures)

pub returns-in-Some-Down : goal.returns-in-Some-Down
returns-in-Some-Down c = c.nearest-in-Some-Down.ensures ∙ ap (powered_by c.args.negative c.args.m.coefficient c.args.m.after) (rw c.in-Some-Down.field-0-is at c.in-Some-Down.ensures)
