-- `numeral_parts::push` meets its contract.
use Rattle.std.proofs.Common.{arith}
use Rattle.numeral_parts.proofs.DigitLaws.{digit_low}
use Rattle.numeral_parts.proofs.push.Goals as goal

pub overflow_sub-b : goal.overflow_sub-b
overflow_sub-b c = omega (arith, digit_low c.args.b c.requires.1)
