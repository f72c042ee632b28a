-- `numeral_parts::unsigned` meets its contract.
use Rattle.std.proofs.Common.{sym, ◌∙◌, arith}
use Rattle.numeral_parts.proofs.PartLaws.{unsigned_none, unsigned_sign, unsigned_plain}
use Rattle.numeral_parts.proofs.unsigned.Goals as goal

pub returns-in-empty : goal.returns-in-empty
returns-in-empty c = unsigned_none c.args.word.now (omega arith)

pub returns-then-is_sign : goal.returns-then-is_sign
returns-then-is_sign c = unsigned_sign c.args.word.now (λ e. omega arith) (sym c.is_sign.ensures ∙ c.if-is_sign.true)

pub returns-else-is_sign : goal.returns-else-is_sign
returns-else-is_sign c = unsigned_plain c.args.word.now (λ e. omega arith) (sym c.is_sign.ensures ∙ c.if-is_sign.false)
