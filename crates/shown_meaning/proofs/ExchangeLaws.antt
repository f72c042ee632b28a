-- The lists of a text and of the exchanged one: both are given, and they agree as sets once renumbered.
use mathlib.Core.Bool.{Bool, true, false, cond, ◌||◌}
use mathlib.Core.List.{List, [], ◌∷◌, ◌++◌}
use mathlib.Core.Path.{◌≡◌, refl, ap, sym, ◌∙◌, subst}
use Prim.Native.Nat.{ℕ, zero, suc, ◌-◌, ◌*◌, ◌/◌, ◌≤◌, ◌<◌, min}
use native.Mathlib.Nat.{min-le_left}
use native.Mathlib.Omega.{arith}
use borrow.Author.Tests.{le-leb, leb-true, ne_eqb}
use lib.Dec.{eqb}
use lib.Ieee.{Float}
use lib.ListN.{length, length-append, length-replicate, replicate}
use Rattle.graph.proofs.ListLaws.{lists_each_once}
use Rattle.graph.specs.Answers.{shown_in, shows, stands_in, those}
use Rattle.graph.specs.Graph.{graph_of}
use Rattle.laws.specs.Bytes.{Bytes}
use Rattle.mixed_driver.specs.Paired.{enough_pairs}
use Rattle.reader.proofs.ExchangeLaws.{reader_exchange}
use Rattle.reader.proofs.PairedLaws.{accepted_enough, enough}
use Rattle.reader.proofs.ReadsLaws.{AcceptedAs, accepted_as}
use Rattle.reader.specs.Answer.{Accepted, Answer, read_into}
use Rattle.reader.specs.Paired.{ReadsPaired, read_with_pairs}
use Rattle.scene.proofs.AcceptLaws.{accept_forth}
use Rattle.scene.proofs.BlockLaws.{exchange}
use Rattle.scene.proofs.IndependentLaws.{clear_first, clear_second}
use Rattle.scene.proofs.RoomLaws.{fit_forth}
use Rattle.scene.proofs.TellsLaws.{at, statements_length}
use Rattle.scene.specs.Exchange.{exchange_shift}
use Rattle.scene.specs.Reading.{Entry, accepted, read_statements, statements}
use Rattle.scene.specs.Record.{answer, filled, record_image, settings_for, width, Answer as Numbers}
use Rattle.scene.specs.declared.Mode.{Mode}
use Rattle.scene.specs.declared.Settings.{Settings}
use Rattle.shown.proofs.AnswerLaws.{all_listed, number_taken}
use Rattle.shown_meaning.proofs.MeaningLaws.{fits}
use Rattle.shown.specs.Code.{padded}
use Rattle.shown.specs.List.{fit_answer, fit_list, pair_refusal, shown_answer, shown_list, table_fits}
use Rattle.shown.specs.Shown.{Listed}
use Rattle.shown_meaning.specs.Exchange.{ListExchange}
use Rattle.sides.proofs.MixedLaws.{resolved}
use Rattle.sides.proofs.MovedLaws.{number_on, some_moved}
use Rattle.sides.specs.Exchange.{MixedExchange}
use Rattle.sides.specs.Sides.{pair_image, pairs as numbers}
use Rattle.table.proofs.ImageLaws.{number_fine}
use Rattle.table.specs.Question.{number_refusal}

-- ---- a list with zeros behind

-- of 1 to k, at most k pass
those_few : (test : ℕ → Bool) (k : ℕ) → length (those test k) ≤ k
unfolding those
those_few test zero = omega arith
those_few test (suc k) = go (test (suc k)) (those_few test k)
  where
    go : (b : Bool) → length (those test k) ≤ k → length (those test k ++ cond b (suc k ∷ []) []) ≤ suc k
    go true h = omega (arith, length-append (those test k) (suc k ∷ []))
    go false h = omega (arith, length-append (those test k) [])

-- zeros are no numbers of primitives
stands_padded : (m : ℕ) → 0 < m → (room : ℕ) (xs : List ℕ) → length xs ≤ room → stands_in m (padded room xs) ≡ stands_in m xs
unfolding padded
stands_padded m z zero [] h = refl
stands_padded m z zero (x ∷ xs) h = absurd (omega arith)
stands_padded m z (suc room) [] h = λ i. ne_eqb m 0 (λ e. omega arith) i || stands_padded m z room [] (omega arith) i
stands_padded m z (suc room) (x ∷ xs) h = ap (λ (b : Bool). eqb m x || b) (stands_padded m z room xs (omega arith))

filled_long : (n : ℕ) (xs : List ℕ) → n ≤ length (filled 0 n xs)
filled_long n xs = omega (arith, length-append xs (replicate (n - length xs) 0), length-replicate {A = ℕ} (n - length xs) 0)

-- ---- the list call on the tables of a call that accepts

module _ (mode : Mode) (text : Bytes) (lent : List ℕ) (doubles : List Float) (sides : List ℕ) (n k : ℕ) (table : List ℕ) (reals : List Float) (pairs : List ℕ) (R : ReadsPaired mode text lent doubles sides (Accepted n k) table reals pairs) where
  abbrev settings : Settings
  settings = settings_for mode (length lent) (length doubles)

  wide : enough_pairs (length lent) (length sides) ≡ true
  wide = accepted_enough mode text lent doubles sides n k table reals pairs R

  -- the entries behind the answer
  call : AcceptedAs (read_with_pairs mode text lent doubles sides) n k
  call = accepted_as (read_with_pairs mode text lent doubles sides) n k R.says

  abbrev es : List Entry
  es = call.entries

  reads : read_into mode text lent doubles ≡ accepted es
  reads = sym (enough mode text lent doubles sides wide) ∙ call.reads

  -- before mixtures are resolved
  plain : read_statements settings text ≡ accepted es
  plain = (resolved settings text es reads).reads

  records_are : table ≡ record_image text (length lent) (accepted es)
  records_are = R.table ∙ ap (record_image text (length lent)) call.reads

  pairs_are : pairs ≡ pair_image (length sides) (accepted es)
  pairs_are = R.sides ∙ ap (pair_image (length sides)) call.reads

  -- the list call's tests of the table
  passes : table_fits (graph_of table pairs) n ≡ true
  passes = (λ i. table_fits (graph_of (records_are i) (pairs_are i)) (call.primitives i)) ∙ fits settings text es (length lent) (length sides) reads

  enough_lent : n * 2 ≤ length sides
  enough_lent = omega (arith, (fit_forth settings (statements es) (accept_forth settings text es plain).2).1, statements_length es, call.primitives, leb-true (min 1024 (length lent / width) * 2) (length sides) wide)

  pairs_long : n * 2 ≤ length pairs
  unfolding pair_image
  pairs_long = omega (arith, enough_lent, ap length pairs_are, filled_long (length sides) (numbers (statements es)))

  number_fits : (i : ℕ) → 0 < i → i ≤ n → number_refusal table n i ≡ 0
  number_fits i z h =
      let a = at es (i - 1) (omega (arith, call.primitives)) in
      let m : i ≡ suc (length a.x) = omega (arith, a.number) in
      (λ j. number_refusal ((records_are ∙ ap (record_image text (length lent)) (sym plain)) j) (call.primitives j) (m j))
      ∙ number_fine settings text es plain (length lent) a.l a.e a.x a.split (min-le_left 1024 (length lent / width))

  -- its tests of count and number
  taken : (i : ℕ) → 0 < i → i ≤ n → pair_refusal table pairs n i ≡ 0
  unfolding pair_refusal
  taken i z h = rw (le-leb (n * 2) (length pairs) pairs_long) (number_fits i z h)

  module _ (i room : ℕ) (z : 0 < i) (h : i ≤ n) (l : n ≤ room) where
    abbrev xs : List ℕ
    xs = shown_in (graph_of table pairs) n i

    room_enough : length xs ≤ room
    unfolding shown_in
    room_enough = omega (arith, those_few (shows (graph_of table pairs) n i) n)

    -- where the tests pass, and where they are reached
    given : (Listed (length xs) ≡ fit_answer (graph_of table pairs) n i room) × (padded room xs ≡ fit_list (graph_of table pairs) n i room)
    given = all_listed (graph_of table pairs) n i room passes (record { total = refl; stands = refl }) room_enough

    asked : (fit_answer (graph_of table pairs) n i room ≡ shown_answer table pairs n i room) × (fit_list (graph_of table pairs) n i room ≡ shown_list table pairs n i room)
    asked = number_taken table pairs n i room refl (taken i z h)

    listed : shown_answer table pairs n i room ≡ Listed (length xs)
    listed = sym (given.0 ∙ asked.0)

    -- in the lent list stand exactly the materials that i may show
    stands_listed : (m : ℕ) → 0 < m → m ≤ n → stands_in m (shown_list table pairs n i room) ≡ shows (graph_of table pairs) n i m
    stands_listed m y o = ap (stands_in m) (sym (given.1 ∙ asked.1)) ∙ stands_padded m y room xs room_enough ∙ (lists_each_once (graph_of table pairs) n i).exactly m y o

-- ---- the law

-- a number of the scene stays one
number_stays : (r : Settings) (p a b q : Bytes) (es : List Entry) → MixedExchange r p a b q es → (i : ℕ) → 0 < i → i ≤ length es → (0 < exchange_shift es p a b i) × (exchange_shift es p a b i ≤ length es)
number_stays r p a b q es x i z h =
    let s = exchange r p a b q es (resolved r (p ++ a ++ b ++ q) es x.reads).reads x.first x.second (clear_first x.independent) (clear_second x.independent) in
    let len = statements_length es in
    (some_moved s.renamed i z, omega (arith, len, s.renamed.count, number_on s.renamed i z (omega (arith, len))))

pub list_exchange : ListExchange
list_exchange mode p a b q es lent lent' doubles doubles' sides sides' l d s E n k table reals pairs R r table' reals' pairs' R' =
    let old = p ++ a ++ b ++ q in
    let new = p ++ b ++ a ++ q in
    let X = reader_exchange mode p a b q es lent lent' doubles doubles' sides sides' l d s E n k table reals pairs R r table' reals' pairs' R' in
    let S = subst (λ (z : Answer). ReadsPaired mode new lent' doubles' sides' z table' reals' pairs') X.tables.accepts R' in
    let count : n ≡ length es = ap (λ (z : Numbers). z.primitives) (R.numbers ∙ ap answer (enough mode old lent doubles sides (wide mode old lent doubles sides n k table reals pairs R) ∙ E.reads)) in
    record {
      before = listed mode old lent doubles sides n k table reals pairs R;
      after = listed mode new lent' doubles' sides' n k table' reals' pairs' S;
      members = λ i m room z h y o v.
          (let f = number_stays (settings_for mode (length lent) (length doubles)) p a b q es E in
          let fi = f i z (omega (arith, count)) in
          let fm = f m y (omega (arith, count)) in
          stands_listed mode new lent' doubles' sides' n k table' reals' pairs' S (exchange_shift es p a b i) room fi.0 (omega (arith, count, fi.1)) v (exchange_shift es p a b m) fm.0 (omega (arith, count, fm.1))
          ∙ X.sides.shown i m z h y o
          ∙ sym (stands_listed mode old lent doubles sides n k table reals pairs R i room z h v m y o));
    }
