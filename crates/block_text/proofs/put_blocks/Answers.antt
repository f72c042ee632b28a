-- `block_text::put_blocks` meets its contract.
use native.Mathlib.Omega.{arith}
use Rattle.lines.proofs.PutsLaws.{all_put, none_yet, puts_length, some_more}
use Rattle.block_text.proofs.BlockLaws.{no_blocks, one_block}
use Rattle.block_text.specs.BlockText.{blocks_in}
use Rattle.block_text.proofs.put_blocks.Goals as goal

pub loop-n-init : goal.loop-n-init
loop-n-init c = let a = c.args in none_yet a.out.now _ (blocks_in a.text.now a.ends.now a.order.now)

pub loop-n-preserved : goal.loop-n-preserved
loop-n-preserved c =
    let l = c.loop-n in
    let a = c.args in
    some_more c.block.result.now _ (one_block a.text.now a.ends.now a.order.now l.n-index (omega arith) c.block.ensures) l.invariant c.put-end.ensures

pub shape_of-out : goal.shape_of-out
shape_of-out c = puts_length c.loop-n.invariant.puts

pub returns : goal.returns
returns c =
    let l = c.loop-n in
    let a = c.args in
    all_put (no_blocks a.text.now a.ends.now a.order.now l.n-index (omega arith)) l.invariant
