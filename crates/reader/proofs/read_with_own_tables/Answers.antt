-- `reader::read_with_own_tables` meets its contract.
use Prim.Native.Nat.{◌≤◌}
use native.Mathlib.Omega.{arith}
use lib.ListN.{length}
use Rattle.reader.proofs.IndexedLaws.{indexed_reads}
use Rattle.reader.proofs.PairedLaws.{most_pairs, paired_reads}
use Rattle.reader.proofs.read_with_own_tables.Goals as goal

pub returns : goal.returns
returns c =
    let l : 2048 ≤ 2048 = omega arith in
    paired_reads _ _ _ _ _ (most_pairs (length c.args.records.now)) _ _ _ _ (indexed_reads _ _ _ _ _ _ _ _ _ _ _ l c.read_indexed-r.ensures)
