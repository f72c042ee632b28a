-- `ranks::put` meets its contract.
use Rattle.ranks.proofs.CountLaws.{put_out, put_in}
use Rattle.ranks.proofs.put.Goals as goal

pub returns-then-table-number : goal.returns-then-table-number
returns-then-table-number c = put_out c.args.table.now c.args.n c.args.value c.if-table-number.true

pub returns : goal.returns
returns c = put_in c.args.table.now c.args.n c.args.value c.if-number-eq0.false
