-- `numeral_parts::digits_from` meets its contract: what is left reads as the whole row does.
use Rattle.std.proofs.Common.{sym, ◌∙◌, arith}
use Rattle.numeral_parts.proofs.DigitLaws.{read_end, read_stop, read_step}
use Rattle.numeral_parts.proofs.digits_from.Goals as goal

pub returns-then-not-is_digit : goal.returns-then-not-is_digit
returns-then-not-is_digit c = read_stop c.loop-b.m c.args.word.now c.loop-b.b-index (omega arith) (sym c.is_digit.ensures ∙ c.if-not-is_digit.true) ∙ c.loop-b.invariant.1

pub push-m-requires : goal.push-m-requires
push-m-requires c = (c.loop-b.invariant.0, sym c.is_digit.ensures ∙ c.if-not-is_digit.false)

pub loop-b-preserved : goal.loop-b-preserved
loop-b-preserved c = (omega (arith, c.push-m.ensures), read_step c.loop-b.m c.args.word.now c.loop-b.b-index (omega arith) _ c.push-m.ensures (sym c.is_digit.ensures ∙ c.if-not-is_digit.false) ∙ c.loop-b.invariant.1)

pub returns : goal.returns
returns c = read_end c.loop-b.m c.args.word.now c.loop-b.b-index c.loop-b.invariant.0 (omega arith) ∙ c.loop-b.invariant.1
