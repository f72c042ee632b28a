-- `numeral_parts::index_of` meets its contract.
use Rattle.std.proofs.Common.{ℕ, Option, ap, ◌∙◌, length, unwrap_or}
use Rattle.numeral_parts.proofs.PartLaws.{index_found}
use Rattle.numeral_parts.proofs.index_of.Goals as goal

pub returns : goal.returns
returns c = c.unwrap_or.ensures ∙ ap (λ (o : Option ℕ). unwrap_or o (length c.args.word.now)) c.find.ensures ∙ index_found _ _
