-- The running reader on blocks in another order, from its contract and the law of what a scene means.
use mathlib.Core.Path.{subst}
use lib.ListN.{length}
use Rattle.reader.proofs.ExchangeLaws.{same_scene}
use Rattle.reader.proofs.IndexedLaws.{indexed_reads}
use Rattle.reader.specs.Paired.{ReadsPaired}
use Rattle.reader.specs.Answer.{Answer}
use Rattle.rearranged_reading.specs.Reader.{IndexedRearrange, ReaderRearrange}
use Rattle.rearrangement.proofs.RearrangeLaws.{rearrange}
use Rattle.rearrangement.specs.Cut.{joined, text_of}
use Rattle.scene.specs.Record.{settings_for}

pub reader_rearrange : ReaderRearrange
reader_rearrange mode ts es new lent lent' doubles doubles' sides sides' l d s E n k table reals pairs R r table' reals' pairs' R' =
    let X = rearrange (settings_for mode (length lent) (length doubles)) ts es new E.reads E.cut E.shuffled E.ordered in
    record {
      renumbering = X.renumbering;
      same = same_scene mode (joined ts) (text_of new) es X.entries X.renumbering.number lent lent' doubles doubles' sides sides' l d s E.reads
          (record { reads = X.reads; renumbers = X.renumbers; pairs = X.pairs; shown = X.shown }) n k table reals pairs R r table' reals' pairs' R';
    }

-- an index of 2,048 entries changes nothing
pub indexed_rearrange : IndexedRearrange
indexed_rearrange mode ts es new lent lent' doubles doubles' sides sides' index index' l d s h h' E n k r e table reals pairs x R r' table' reals' pairs' x' R' =
    reader_rearrange mode ts es new lent lent' doubles doubles' sides sides' l d s E n k table reals pairs
    (subst (λ (z : Answer). ReadsPaired mode (joined ts) lent doubles sides z table reals pairs) e (indexed_reads mode (joined ts) lent doubles sides index r table reals pairs x h R))
    r'.answer table' reals' pairs' (indexed_reads mode (text_of new) lent' doubles' sides' index' r' table' reals' pairs' x' h' R')
