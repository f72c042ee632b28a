-- `numeral_parts::is_negative` meets its contract.
use Rattle.std.proofs.Common.{◌∙◌}
use Rattle.numeral_parts.proofs.PartLaws.{byte_there, negative_there}
use Rattle.numeral_parts.proofs.is_negative.Goals as goal

pub returns : goal.returns
returns c = c.eq.ensures ∙ byte_there c.args.word.now 0 _ _ c.first.ensures.item ∙ negative_there c.args.word.now
