-- The exchange law of the running reader, from its contract and the exchange law of what a scene means; and so for any text that agrees.
use mathlib.Core.Bool.{true}
use mathlib.Core.List.{List, ◌++◌}
use mathlib.Core.Path.{◌≡◌, ap, sym, ◌∙◌}
use Prim.Native.Nat.{ℕ, ◌-◌}
use native.Mathlib.Omega.{arith}
use lib.Ieee.{Float}
use lib.ListN.{length, replicate, take}
use lib.Seq.{take-append_seam}
use Rattle.graph.specs.Answers.{shows}
use Rattle.graph.specs.Graph.{Graph, Sides, graph_of}
use Rattle.laws.specs.Bytes.{Bytes}
use Rattle.mixed_driver.specs.Paired.{enough_pairs}
use Rattle.reader.proofs.PairedLaws.{accepted_enough, enough, paired_reads}
use Rattle.reader.specs.Answer.{Accepted, Answer, Reads, answered, read_into}
use Rattle.reader.specs.Exchange.{ReaderExchange, SameButNumbers, SamePairs, SameScene}
use Rattle.reader.specs.Paired.{ReadsPaired, read_with_pairs}
use Rattle.scene.proofs.FlatLaws.{record_in_lem}
use Rattle.scene.specs.Exchange.{exchange_shift}
use Rattle.scene.specs.HouseRules.{zero_real}
use Rattle.scene.specs.Reading.{Entry, accepted, statements}
use Rattle.scene.specs.Record.{record_in, records, real_image, nth, answer, record_image, real_table, settings_for, Answer as Numbers}
use Rattle.scene.specs.Told.{tells, renumbered}
use Rattle.scene.specs.declared.Mode.{Mode}
use Rattle.sides.proofs.ExchangeLaws.{Agrees, mixed_exchange}
use Rattle.sides.proofs.SideLaws.{tables_graph}
use Rattle.sides.specs.Read.{read}
use Rattle.sides.specs.Sides.{pair_image, scene_graph}

-- what a call on an accepted text shows
module _ (mode : Mode) (text : Bytes) (lent : List ℕ) (doubles : List Float) (r : Answer) (table : List ℕ) (reals : List Float) (R : Reads mode text lent doubles r table reals) (es : List Entry) (e : read_into mode text lent doubles ≡ accepted es) where
  says_of : r ≡ Accepted (length es) (length (real_table es))
  says_of = R.says ∙ ap answered e

  pub row_of : (n : ℕ) → record_in table n ≡ nth (records es) n
  unfolding record_image
  row_of n = ap (λ (t : List ℕ). record_in t n) (R.table ∙ ap (record_image text (length lent)) e) ∙ record_in_lem text (records es) (length lent) n

  reals_of_lem : (k : ℕ) → k ≡ length (real_table es) → take k reals ≡ real_table es
  unfolding real_image
  reals_of_lem k q = (λ i. take (q i) ((R.doubles ∙ ap (real_image (length doubles)) e) i)) ∙ take-append_seam (real_table es) (replicate (length doubles - length (real_table es)) zero_real)

-- and of its graph
graph_of_lem : (mode : Mode) (text : Bytes) (lent : List ℕ) (doubles : List Float) (sides : List ℕ) (r : Answer) (table : List ℕ) (reals : List Float) (pairs : List ℕ) → ReadsPaired mode text lent doubles sides r table reals pairs → (es : List Entry) → read_with_pairs mode text lent doubles sides ≡ accepted es → graph_of table pairs ≡ scene_graph (statements es)
graph_of_lem mode text lent doubles sides r table reals pairs R es e =
    (λ i. graph_of ((R.table ∙ ap (record_image text (length lent)) e) i) ((R.sides ∙ ap (pair_image (length sides)) e) i))
    ∙ tables_graph text es (length lent) (length sides)

-- a call on a text and one on a text that agrees with it once renumbered
module _ (mode : Mode) (old new : Bytes) (es es' : List Entry) (f : ℕ → ℕ) (lent lent' : List ℕ) (doubles doubles' : List Float) (sides sides' : List ℕ) (l : length lent' ≡ length lent) (d : length doubles' ≡ length doubles) (s : length sides' ≡ length sides)
    (e : read (settings_for mode (length lent) (length doubles)) old ≡ accepted es) (X : Agrees (settings_for mode (length lent) (length doubles)) old new es es' f)
    (n k : ℕ) (table : List ℕ) (reals : List Float) (pairs : List ℕ) (R : ReadsPaired mode old lent doubles sides (Accepted n k) table reals pairs) (r : Answer) (table' : List ℕ) (reals' : List Float) (pairs' : List ℕ) (R' : ReadsPaired mode new lent' doubles' sides' r table' reals' pairs') where
  wide : enough_pairs (length lent) (length sides) ≡ true
  wide = accepted_enough mode old lent doubles sides n k table reals pairs R

  wide' : enough_pairs (length lent') (length sides') ≡ true
  wide' = (λ i. enough_pairs (l i) (s i)) ∙ wide

  e' : read_into mode new lent' doubles' ≡ accepted es'
  e' = (λ i. read (settings_for mode (l i) (d i)) new) ∙ X.reads

  plain : Reads mode old lent doubles (Accepted n k) table reals
  plain = paired_reads mode old lent doubles sides wide (Accepted n k) table reals pairs R

  plain' : Reads mode new lent' doubles' r table' reals'
  plain' = paired_reads mode new lent' doubles' sides' wide' r table' reals' pairs' R'

  counts : (n ≡ length es) × (k ≡ length (real_table es))
  counts = let h = plain.numbers ∙ ap answer e in (ap (λ (z : Numbers). z.primitives) h, ap (λ (z : Numbers). z.reals) h)

  same_tables : SameButNumbers old new f n k table reals r table' reals'
  same_tables =
      let Y = X.renumbers in
      record {
        accepts = says_of mode new lent' doubles' r table' reals' plain' es' e' ∙ (λ i. Accepted (Y.primitives i) (Y.reals i)) ∙ sym (says_of mode old lent doubles (Accepted n k) table reals plain es e);
        rows = λ i h g. (λ j. tells new (reals_of_lem mode new lent' doubles' r table' reals' plain' es' e' k (counts.1 ∙ sym Y.reals) j) (row_of mode new lent' doubles' r table' reals' plain' es' e' (f i) j))
            ∙ Y.rows i h (omega (arith, counts.0))
            ∙ (λ j. renumbered f (tells old (sym (reals_of_lem mode old lent doubles (Accepted n k) table reals plain es e k counts.1) j) (sym (row_of mode old lent doubles (Accepted n k) table reals plain es e i) j)));
      }

  graph : graph_of table pairs ≡ scene_graph (statements es)
  graph = graph_of_lem mode old lent doubles sides (Accepted n k) table reals pairs R es (enough mode old lent doubles sides wide ∙ e)

  graph' : graph_of table' pairs' ≡ scene_graph (statements es')
  graph' = graph_of_lem mode new lent' doubles' sides' r table' reals' pairs' R' es' (enough mode new lent' doubles' sides' wide' ∙ e')

  same_pairs : SamePairs f n table pairs table' pairs'
  same_pairs = record {
    foreground = λ i h g. ap (λ (z : Graph). (z.sides (f i)).foreground) graph' ∙ ap (λ (z : Sides). z.foreground) (X.pairs i h (omega (arith, counts.0))) ∙ ap (λ (z : Graph). f (z.sides i).foreground) (sym graph);
    background = λ i h g. ap (λ (z : Graph). (z.sides (f i)).background) graph' ∙ ap (λ (z : Sides). z.background) (X.pairs i h (omega (arith, counts.0))) ∙ ap (λ (z : Graph). f (z.sides i).background) (sym graph);
    shown = λ i m h g u v. (λ j. shows (graph' j) ((counts.0 ∙ sym X.renumbers.primitives) j) (f i) (f m)) ∙ X.shown i m h (omega (arith, counts.0)) u (omega (arith, counts.0)) ∙ (λ j. shows (sym graph j) (sym counts.0 j) i m);
  }

  pub same_scene : SameScene old new f n k table reals pairs r table' reals' pairs'
  same_scene = record { tables = same_tables; sides = same_pairs }

-- the exchanged text does
pub reader_exchange : ReaderExchange
reader_exchange mode p a b q es lent lent' doubles doubles' sides sides' l d s E =
    let X = mixed_exchange (settings_for mode (length lent) (length doubles)) p a b q es E in
    same_scene mode (p ++ a ++ b ++ q) (p ++ b ++ a ++ q) es X.entries (exchange_shift es p a b) lent lent' doubles doubles' sides sides' l d s E.reads
    (record { reads = X.reads; renumbers = X.renumbers; pairs = X.pairs; shown = X.shown })
