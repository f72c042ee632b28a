-- `block_text::write_blocks` meets its contract.
use Rattle.lines.proofs.PutsLaws.{puts_as, puts_more}
use Rattle.block_text.proofs.BlockLaws.{blocks_written, rest_is}
use Rattle.block_text.specs.BlockText.{blocks_in}
use Rattle.block_text.proofs.write_blocks.Goals as goal

pub returns : goal.returns
returns c =
    let a = c.args in
    let all = puts_as _ (rest_is a.text.now a.ends.now a.order.now c.number_at-rest.ensures c.part.ensures) (puts_more (blocks_in a.text.now a.ends.now a.order.now) _ c.put_blocks-behind_blocks.ensures c.put-end.ensures) in
    blocks_written a.text.now a.ends.now a.order.now all _ _ c.put_length.ensures c.clear_unused.ensures.value c.clear_unused.ensures.out_after
