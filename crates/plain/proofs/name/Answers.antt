-- `plain::name` meets its contract.
use Rattle.plain.proofs.HeadLaws.{names}
use Rattle.plain.proofs.name.Goals as goal

pub returns : goal.returns
returns c = names c.args.text.now c.args.at c.in_ok-w.w c.in_ok-w.ensures c.part.ensures c.same.ensures c.if-same.false
