-- One word of the text: what the definition makes of it, and what then holds.
use mathlib.Core.Bool.{true, not}
use mathlib.Core.List.{List, [], ◌∷◌, ◌++◌, append_assoc, append-nil}
use mathlib.Core.Path.{◌≡◌, refl, ap, sym, ◌∙◌, subst}
use Prim.Native.Nat.{ℕ, suc, ◌+◌, ◌≤◌}
use native.Mathlib.Omega.{arith}
use borrow.Author.Tests.{not-false}
use lib.Ieee.{Float}
use lib.ListN.{length, length-append, length-drop, get_or, take, drop, take-append-drop}
use lib.Seq.{drop-append-le, length-take-le, drop-cons}
use Rattle.progress.proofs.MoveLaws.{ahead, place, opens_word, on}
use Rattle.progress.specs.Goes.{word_ended, On, Done}
use Rattle.progress.specs.Image.{image, open_reals}
use Rattle.progress.specs.Invariant.{AtWord, Inv, result}
use Rattle.index.specs.Lent.{lent, tally}
use Rattle.laws.proofs.RunLaws.{run_all, Behind, run_length, run_more, behind_run}
use Rattle.laws.specs.Bytes.{Bytes, part}
use Rattle.laws.specs.Runs.{all, run as longest}
use Rattle.lexer.specs.Class.{is_other, is_blank}
use Rattle.lexer.specs.Word.{word_fault}
use Rattle.scene.proofs.EdgeLaws.{run_stopped, run_append, part_noted}
use Rattle.scene.proofs.PlaceLaws.{all_on, AllRead}
use Rattle.scene.proofs.TellsLaws.{reals_count}
use Rattle.scene.proofs.TurnLaws.{run_word}
use Rattle.scene.specs.HouseRules.{zero_real}
use Rattle.scene.specs.Links.{reals_in, reals_used, reals_added}
use Rattle.scene.specs.Phase.{unless_fault, busy, idle, taken, Phase}
use Rattle.scene.specs.Reading.{run, refused, first, settle, stopped, going_at, statements, gap, begins, finish, initial, Entry, Places, newline, note, test, at_end}
use Rattle.scene.specs.Record.{settings_for, flat, real_table, records, filled}
use Rattle.scene.specs.declared.Settings.{Settings}
use Rattle.statement.specs.States.{between, opening_of}
use Rattle.statement.specs.declared.State.{State}
use Rattle.scene.specs.Reading as reading
use Rattle.scene.specs.Record as table_of

note_word : (ph : Phase) (p : ℕ) (k : Places) → (note ph p k).word ≡ p
note_word idle p k = refl
note_word (busy m part) p k = (part_noted part p k).0

-- the bytes of a word and the blank behind it
pub record Word (text : Bytes) (r : Settings) (n len : ℕ) (ph : Phase) (k : Places) (es : List Entry) : Type 0 where
  pub x : Bytes
  pub y : Bytes
  pub split : drop n (text ++ newline) ≡ x ++ y
  pub size : suc (n + len) ≡ n + length x
  pub runs : run r (going_at n gap ph k es) x ≡ word_ended r n (part text n len) ph k es

module _ (text : Bytes) (table : List ℕ) (reals : List Float) (index : List ℕ) (room : Settings) (s : State) (len : ℕ) (W : AtWord text table reals index room s len) where
  abbrev I : Inv text table reals index room s
  I = W.inv

  abbrev w : Bytes
  w = part text s.at len

  rest : Bytes
  rest = drop s.at text

  pub word_fits : s.at + len ≤ length text
  word_fits = omega (arith, W.size, W.here, run_length is_other (drop s.at text), length-drop s.at text)

  pub word_length : length w ≡ len
  word_length = length-take-le len (drop s.at text) (omega (arith, word_fits, length-drop s.at text))

  pub reads : Word text room s.at len I.phase I.places I.above
  unfolding run rest is_other is_blank
  reads = record {
    x = w ++ beh.first ∷ [];
    y = beh.rest;
    split = drop-append-le s.at text newline (omega (arith, W.here)) ∙ ap {B = Bytes} (λ (z : Bytes). z ++ newline) (sym (take-append-drop len rest)) ∙ append_assoc w (drop len rest) newline ∙ ap {B = Bytes} (λ (z : Bytes). w ++ z) behind ∙ sym (append_assoc w (beh.first ∷ []) beh.rest);
    size = omega (arith, length-append w (beh.first ∷ []), word_length);
    runs = subst (λ (z : Bytes). all is_other z ≡ true → run room (going_at s.at gap I.phase I.places I.above) (z ++ beh.first ∷ []) ≡ word_ended room s.at z I.phase I.places I.above) (sym begun)
        (λ h. run_word room I.phase I.above s.at I.places c (take (longest is_other t) t) beh.first [] h (not-false (is_blank beh.first) beh.fails) opens)
        (ap (λ (n : ℕ). all is_other (take n rest)) W.size ∙ run_all is_other rest);
  }
    where
      c : ℕ
      c = get_or text s.at 0

      t : Bytes
      t = drop (suc s.at) text

      cut : rest ≡ c ∷ t
      cut = drop-cons text s.at 0 W.here

      beh : Behind is_other 10 (drop (longest is_other rest) rest)
      beh = behind_run is_other 10 rest refl

      behind : drop len rest ++ newline ≡ beh.first ∷ beh.rest
      behind = ap {B = Bytes} (λ (n : ℕ). drop n rest ++ newline) W.size ∙ beh.split

      begun : w ≡ c ∷ take (longest is_other t) t
      begun = (λ i. take (W.size i) rest) ∙ (λ i. take (longest is_other (cut i)) (cut i)) ∙ ap (λ (n : ℕ). take n (c ∷ t)) (run_more is_other c t (ap not W.other))

      opens : begins I.phase c ≡ first c
      opens = opens_word (length index) (length I.done) (statements I.above) I.places c I.phase (ap (λ (z : State). opening_of z.phase c) (sym I.is) ∙ W.opens)

  abbrev pub reached : reading.State
  reached = word_ended room s.at w I.phase I.places I.above

  abbrev pub done : Bytes
  done = I.done ++ reads.x

  pub comes : run room initial done ≡ reached
  comes = on text table reals index room s I reads.x ∙ reads.runs

  splits : text ++ newline ≡ done ++ reads.y
  splits = I.whole ∙ ap {B = Bytes} (λ (z : Bytes). I.done ++ z) (ahead text table reals index room s I ∙ reads.split) ∙ sym (append_assoc I.done reads.x reads.y)

  length_read : suc (s.at + len) ≡ length done
  length_read = omega (arith, reads.size, place text table reals index room s I, length-append I.done reads.x)

  -- the word is refused
  pub refuses : (n p : ℕ) → reached ≡ stopped n p → result text room ≡ refused n p
  refuses n p h = ap (finish (length text)) (ap (run room initial) splits ∙ run_append room initial done reads.y ∙ ap (λ (z : reading.State). run room z reads.y) (comes ∙ h) ∙ run_stopped room n p reads.y)

  pub faulty : (n : ℕ) → word_fault w ≡ suc n → result text room ≡ refused (suc n) s.at
  faulty n h = refuses (suc n) s.at ((λ i. settle (at_end s.at w I.phase I.places I.above) (unless_fault (h i) (taken room I.phase w)) (test room (statements I.above) I.phase w)) ∙ ap (stopped (suc n)) (note_word I.phase s.at I.places))

  -- all that has been read stands in the text
  pub all_there : (es : List Entry) → AllRead done es → AllRead (text ++ newline) es
  all_there es h = subst (λ (z : Bytes). AllRead z es) (sym splits) (all_on reads.y done es h)

  -- the statement goes on
  pub goes_on : (s' : State) (xs D : List Float) → (N : On (length index) (suc (s.at + len)) I.above I.phase reached s' xs) → length D ≡ length reals → D ≡ filled zero_real (length reals) ((real_table I.above ++ open_reals I.phase) ++ xs) → Inv text table D index room s'
  goes_on s' xs D N l h = record {
    done = done;
    rest = reads.y;
    phase = N.phase;
    places = N.places;
    above = I.above;
    whole = splits;
    reach = comes ∙ N.goes ∙ ap (λ (n : ℕ). going_at n gap N.phase N.places I.above) length_read;
    is = N.is ∙ ap (λ (n : ℕ). image (length index) n (statements I.above) N.phase N.places) length_read;
    stored = I.stored;
    held = I.held;
    doubles = h ∙ (λ i. filled zero_real (sym l i) ((append_assoc (real_table I.above) (open_reals I.phase) xs ∙ ap {B = List Float} (λ (z : List Float). real_table I.above ++ z) (sym N.reals)) i));
    settings = I.settings ∙ ap (settings_for room.mode (length table)) (sym l);
    short = I.short;
  }

  -- the statement ends: T, D and X with its record, its reals and its number, and the count up to it
  pub goes_out : (s' : State) (xs : List Float) (N : Done (length index) (suc (s.at + len)) I.above I.phase reached s' xs) (T : List ℕ) (D : List Float) (X : List ℕ) → length T ≡ length table → length D ≡ length reals → length X ≡ length index
      → T ≡ filled 0 (length table) (flat text (records (N.entry ∷ I.above))) → D ≡ filled zero_real (length reals) ((real_table I.above ++ open_reals I.phase) ++ xs) → X ≡ lent (length index) (statements (N.entry ∷ I.above))
      → (s'' : State) → s'' ≡ between s'.at (s'.count + 1) s'.used (tally (length index) (statements (N.entry ∷ I.above))) → Inv text T D X room s''
  unfolding table_of.reals statements reals_used
  goes_out s' xs N T D X t d x h g f s'' q = record {
    done = done;
    rest = reads.y;
    phase = idle;
    places = N.places;
    above = N.entry ∷ I.above;
    whole = splits;
    reach = comes ∙ N.goes ∙ ap (λ (n : ℕ). going_at n gap idle N.places (N.entry ∷ I.above)) length_read;
    is = q ∙ (λ i. between ((N.place ∙ length_read) i) (count i) (total i) (tally (sym x i) (statements (N.entry ∷ I.above))));
    held = f ∙ ap (λ (n : ℕ). lent n (statements (N.entry ∷ I.above))) (sym x);
    stored = h ∙ ap (λ (n : ℕ). filled 0 n (flat text (records (N.entry ∷ I.above)))) (sym t);
    doubles = g ∙ (λ i. filled zero_real (sym d i) ((append_assoc (real_table I.above) (open_reals I.phase) xs ∙ ap {B = List Float} (λ (z : List Float). real_table I.above ++ z) (sym N.reals) ∙ sym (append-nil (real_table I.above ++ reals_in N.entry.statement.body))) i));
    settings = I.settings ∙ (λ i. settings_for room.mode (sym t i) (sym d i));
    short = I.short;
  }
    where
      count : s'.count + 1 ≡ suc (length (statements I.above))
      count = omega (arith, N.count)

      total : s'.used ≡ reals_used (statements I.above) + reals_added N.entry.statement.body
      total = N.used ∙ ap (λ (n : ℕ). reals_used (statements I.above) + n) (reals_count N.entry.statement.body)
