-- `block_text::block` meets its contract.
use Rattle.block_text.proofs.BlockLaws.{block_is}
use Rattle.block_text.proofs.block.Goals as goal

pub returns : goal.returns
returns c =
    let a = c.args in
    block_is a.text.now a.ends.now a.n c.saturating_sub.ensures c.number_at-start.ensures c.number_at-end.ensures c.saturating_sub-2.ensures c.part.ensures
