use lib.ListN.{drop}
use Rattle.lines.proofs.PutsLaws.{PutsUpTo}
use Rattle.block_text.specs.BlockText.{blocks_in}
use Rattle.block_text.proofs.put_blocks.Given as goal

abbrev pub invariant-loop-n : goal.invariant-loop-n
invariant-loop-n l = PutsUpTo l.initial.out l.initial.end (blocks_in l.text l.ends l.order) (blocks_in l.text l.ends (drop l.n-index l.order)) l.end l.out
