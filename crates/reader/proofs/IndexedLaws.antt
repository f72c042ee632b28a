-- Reading with an index, from its contract: the engines answer alike, and the exchange of blocks.
use mathlib.Core.List.{List, ◌++◌}
use mathlib.Core.Path.{◌≡◌, ap, sym, subst, ◌∙◌}
use Prim.Native.Nat.{ℕ, ◌≤◌, ◌<◌}
use borrow.Author.Tests.{le-leb, lt-leb}
use lib.Ieee.{Float}
use lib.ListN.{length}
use Rattle.laws.specs.Bytes.{Bytes}
use Rattle.mixed_driver.specs.Paired.{read_paired, short_reason}
use Rattle.reader.proofs.ExchangeLaws.{reader_exchange}
use Rattle.reader.specs.Answer.{Answer, answered}
use Rattle.reader.specs.Indexed.{EnginesAlike, IndexedExchange, IndexedReads, read_indexed}
use Rattle.reader.specs.Paired.{ReadsPaired, read_with_pairs}
use Rattle.scene.specs.Reading.{refused}
use Rattle.scene.specs.Record.{answer, real_image, record_image}
use Rattle.scene.specs.declared.Mode.{Mode}
use Rattle.sides.specs.Sides.{pair_image}

module _ (mode : Mode) (text : Bytes) (lent : List ℕ) (doubles : List Float) (pairs index : List ℕ) where
  -- the lent index is long enough, or not
  pub long_index : 2048 ≤ length index → read_indexed mode text lent doubles pairs index ≡ read_with_pairs mode text lent doubles pairs
  unfolding read_indexed
  long_index l = rw (le-leb 2048 (length index) l)

  pub short_index : length index < 2048 → read_indexed mode text lent doubles pairs index ≡ refused (short_reason 24 (length text)) 0
  unfolding read_indexed
  short_index l = rw (lt-leb 2048 (length index) l)

pub indexed_reads : IndexedReads
indexed_reads mode text lent doubles sides index r table reals pairs index' l R =
    let e = long_index mode text lent doubles sides index l in
    record {
      says = R.says ∙ ap answered e;
      numbers = R.numbers ∙ ap answer e;
      table = R.table ∙ ap (record_image text (length lent)) e;
      doubles = R.doubles ∙ ap (real_image (length doubles)) e;
      sides = R.sides ∙ ap (pair_image (length sides)) e;
    }

pub engines_alike : EnginesAlike
engines_alike mode text lent lent' doubles doubles' sides sides' index l d s h r table reals pairs R r' table' reals' pairs' index' R' =
    let S = indexed_reads mode text lent' doubles' sides' index r' table' reals' pairs' index' h R' in
    let e : read_with_pairs mode text lent' doubles' sides' ≡ read_with_pairs mode text lent doubles sides = (λ i. read_paired mode text (l i) (d i) (s i)) in
    record {
      answer = S.says ∙ ap answered e ∙ sym R.says;
      records = S.table ∙ (λ i. record_image text (l i) (e i)) ∙ sym R.table;
      doubles = S.doubles ∙ (λ i. real_image (d i) (e i)) ∙ sym R.doubles;
      sides = S.sides ∙ (λ i. pair_image (s i) (e i)) ∙ sym R.sides;
    }

pub indexed_exchange : IndexedExchange
indexed_exchange mode p a b q es lent lent' doubles doubles' sides sides' index index' l d s h h' E n k r e table reals pairs x R r' table' reals' pairs' x' R' =
    reader_exchange mode p a b q es lent lent' doubles doubles' sides sides' l d s E n k table reals pairs
    (subst (λ (z : Answer). ReadsPaired mode (p ++ a ++ b ++ q) lent doubles sides z table reals pairs) e (indexed_reads mode (p ++ a ++ b ++ q) lent doubles sides index r table reals pairs x h R))
    r'.answer table' reals' pairs' (indexed_reads mode (p ++ b ++ a ++ q) lent' doubles' sides' index' r' table' reals' pairs' x' h' R')
