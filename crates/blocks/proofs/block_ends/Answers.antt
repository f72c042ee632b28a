-- `blocks::block_ends` meets its contract.
use mathlib.Core.Path.{◌≡◌}
use borrow.Author.Rules.{rules}
use lib.ListN.{length, replicate}
use Rattle.blocks.proofs.CodeLaws.{cut_made, cut_refused}
use Rattle.blocks.proofs.block_ends.Goals as goal

pub returns-in-Err : goal.returns-in-Err
returns-in-Err c =
    let a = c.args in
    let zeros : c.fill.new.self ≡ replicate (length a.ends.now) 0 = search rules in
    cut_refused a.text.now a.records.now (length a.ends.now) _ c.check.ensures _ c.in-Err.is zeros

pub returns-in-Ok : goal.returns-in-Ok
returns-in-Ok c = let a = c.args in cut_made a.text.now a.records.now (length a.ends.now) _ c.check.ensures _ c.in-Ok.is c.put_ends.ensures
