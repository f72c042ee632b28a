-- `numeral_scan::has` meets its contract.
use Rattle.std.proofs.Common.{◌∙◌}
use Rattle.numeral_parts.proofs.PartLaws.{byte_there}
use Rattle.numeral_scan.specs.Pieces.{stands}
use Rattle.numeral_scan.proofs.has.Goals as goal

pub returns : goal.returns
unfolding stands
returns c = c.eq.ensures ∙ byte_there c.args.text.now c.args.at _ _ c.get.ensures.lookup
