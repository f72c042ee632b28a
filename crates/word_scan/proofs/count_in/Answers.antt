-- `word_scan::count_in` meets its contract.
use Rattle.word_scan.proofs.PassLaws.{long_passes}
use Rattle.word_scan.proofs.count_in.Goals as goal

pub returns : goal.returns
returns c = long_passes c.args.text.now c.args.at c.in_ok-w.w _ _ c.in_ok-w.ensures c.part.ensures c.in_ok-value.ensures
