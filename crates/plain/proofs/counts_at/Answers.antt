-- `plain::counts_at` meets its contract.
use Rattle.std.proofs.Common.{arith}
use Rattle.plain.proofs.HeadLaws.{counting, lines_fit}
use Rattle.plain.proofs.counts_at.Goals as goal

pub overflow_add-result : goal.overflow_add-result
overflow_add-result c = omega (arith, lines_fit c.args.text.now c.args.at c.in_ok-s.s c.in_ok-i.i c.in_ok-r.r c.in_ok-s.ensures c.in_ok-i.ensures c.in_ok-r.ensures, c.well_formed.0)

pub overflow_add-result-2 : goal.overflow_add-result-2
overflow_add-result-2 c = omega (arith, lines_fit c.args.text.now c.args.at c.in_ok-s.s c.in_ok-i.i c.in_ok-r.r c.in_ok-s.ensures c.in_ok-i.ensures c.in_ok-r.ensures, c.well_formed.0)

pub returns : goal.returns
returns c = counting c.args.text.now c.args.at c.in_ok-s.s c.in_ok-i.i c.in_ok-r.r c.in_ok-s.ensures c.in_ok-i.ensures c.in_ok-r.ensures c.if-s-ne0.false c.if-i-ne0.false
