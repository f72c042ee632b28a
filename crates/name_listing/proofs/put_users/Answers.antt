-- `name_listing::put_users` meets its contract.
use Rattle.buffer.specs.Decimal.{decimal}
use Rattle.lines.proofs.PutsLaws.{puts_as, puts_more, puts_none}
use Rattle.name_listing.proofs.LineLaws.{all_users, no_users}
use Rattle.name_listing.proofs.put_users.Goals as goal

pub returns-then-first-eq0 : goal.returns-then-first-eq0
returns-then-first-eq0 c = let a = c.args in puts_as _ (no_users a.records.now a.d a.count c.first_user-first.ensures c.if-first-eq0.true) (puts_none _ _)

pub returns : goal.returns
returns c =
    let a = c.args in
    puts_as _ (all_users a.records.now a.d a.count c.first_user-first.ensures c.if-first-eq0.false) (puts_more (decimal c.first_user-first.result) _ c.put_number-behind_first.ensures c.put_laters.ensures)
