-- Good bytes up to a blank or the text's end are the next word, and no line ends among them.
use mathlib.Core.Bool.{Bool, true, false, not, ◌||◌, cond, false≢true}
use mathlib.Core.List.{[], ◌∷◌}
use mathlib.Core.Option.{some}
use mathlib.Core.Path.{◌≡◌, refl, ap, sym, ◌∙◌}
use Prim.Native.Nat.{ℕ, zero, suc, ◌+◌, ◌-◌, ◌≤◌, ◌<◌}
use native.Mathlib.Numerals.{add-one}
use native.Mathlib.Omega.{arith}
use borrow.Author.Tests.{eqb-true, leb-true, le-leb, not-true}
use lib.Dec.{eqb, leb}
use lib.ListN.{length, length-drop, length-take, take, drop, get_or}
use lib.Seq.{drop-cons, get_or-drop, take_all}
use Rattle.laws.proofs.BoolLaws.{and_left, and_right}
use Rattle.laws.proofs.RunLaws.{past_fails, past_least, past_most, past_run, run_all, run_length, run_more}
use Rattle.laws.specs.Bytes.{Bytes, part}
use Rattle.laws.specs.Runs.{all, past, run}
use Rattle.lexer.proofs.CheckedLaws.{good_word}
use Rattle.lexer.proofs.ClassLaws.{blank_not_good}
use Rattle.lexer.specs.Class.{is_blank, is_good, is_in_line, is_other}
use Rattle.lexer.specs.Word.{Checked, checked_at, ends_word, word_at, word_bytes}
use Rattle.numeral.specs.Count.{count_of}
use Rattle.numeral_parts.proofs.DigitLaws.{digit_high, digit_low}
use Rattle.numeral_parts.specs.Digits.{digits, is_digit, value_from}
use Rattle.numeral.specs.Numeral.{numeral_of}
use Rattle.numeral_scan.specs.Scan.{ReadAt}
use Rattle.numeral_scan.specs.declared.Scanned.{Scanned}
use Rattle.scene.proofs.LineLaws.{line_on, newlines_more, newlines_most}
use Rattle.scene.specs.Record.{line_at, newlines}
use Rattle.word_scan.specs.Passing.{Passes, PassesComment, PassesCount, PassesReal, PassesWord}
use Rattle.word_scan.specs.declared.Passed.{Passed}

-- ---- lines

-- a good byte ends no line
good_stays : (b : ℕ) → is_good b ≡ true → eqb b 10 ≡ false
unfolding is_good
good_stays b g = go (eqb b 10) refl
  where
    go : (c : Bool) → eqb b 10 ≡ c → c ≡ false
    go true e = absurd (let h = leb-true 33 b (and_left (leb 33 b) (leb b 126) g) in let q = eqb-true b 10 e in omega arith)
    go false e = refl

no_lines : (w : Bytes) → all is_good w ≡ true → newlines w ≡ 0
unfolding newlines all
no_lines [] h = refl
no_lines (b ∷ w) h = rw (good_stays b (and_left (is_good b) (all is_good w) h)) (no_lines w (and_right (is_good b) (all is_good w) h))

-- the line behind a byte
pub line_step : (text : Bytes) (i n : ℕ) → i < length text → n ≡ cond (eqb (get_or text i 0) 10) 1 0 → line_at text i + n ≡ line_at text (i + 1)
line_step text i n h e = omega (arith, newlines_more text i h) ∙ ap (line_at text) (sym (add-one i))

-- past the text's end there is no line more
pub line_end : (text : Bytes) (i j : ℕ) → length text ≤ i → length text ≤ j → line_at text i ≡ line_at text j
line_end text i j h l = ap (λ (t : Bytes). suc (newlines t)) (take_all i text h ∙ sym (take_all j text l))

-- no line past the text's own
pub line_most : (text : Bytes) (n : ℕ) → line_at text n ≤ length text + 1
line_most text n = omega (arith, newlines_most (take n text), length-take n text)

-- ---- the word

-- a run that goes so far and no further
run_is : (xs : Bytes) (k : ℕ) → k ≤ length xs → all is_good (take k xs) ≡ true → (k < length xs → is_good (get_or xs k 0) ≡ false) → run is_good xs ≡ k
unfolding run all
run_is [] zero h a f = refl
run_is [] (suc k) h a f = absurd (omega arith)
run_is (b ∷ xs) zero h a f = rw (f (omega arith))
run_is (b ∷ xs) (suc k) h a f = rw (and_left (is_good b) (all is_good (take k xs)) a) (ap suc (run_is xs k (omega arith) (and_right (is_good b) (all is_good (take k xs)) a) (λ l. f (omega arith))))

module _ (text : Bytes) (at place end : ℕ) (p : place ≡ past is_blank text at) (longer : place < end) (l : end ≤ length text) (g : all is_good (part text place (end - place)) ≡ true) (e : ends_word text end ≡ true) where
  stops : end - place < length (drop place text) → is_good (get_or (drop place text) (end - place) 0) ≡ false
  unfolding ends_word
  stops h = ap is_good (get_or-drop place text (end - place) 0 ∙ ap (λ (k : ℕ). get_or text k 0) same_place) ∙ go (leb (length text) end) refl (is_blank (get_or text end 0)) refl e
    where
      same_place : place + (end - place) ≡ end
      same_place = omega arith

      go : (a : Bool) → leb (length text) end ≡ a → (b : Bool) → is_blank (get_or text end 0) ≡ b → (a || b) ≡ true → is_good (get_or text end 0) ≡ false
      go true q b r t = absurd (omega (arith, leb-true (length text) end q, length-drop place text))
      go false q true r t = blank_not_good (get_or text end 0) r
      go false q false r t = absurd (false≢true t)

  end_is : end ≡ past is_good text place
  end_is = let r = run_is (drop place text) (end - place) (omega (arith, length-drop place text)) g stops in omega (arith, past_run is_good text place (omega (arith, p, past_most is_blank text at)))

  pub line_kept : line_at text end ≡ line_at text place
  line_kept = omega (arith, line_on text place end (omega arith), no_lines (part text place (end - place)) g)

  module _ (short : end - place ≤ 64) where
    checked : ◌≡◌ {A = Checked} (record { place = place; len = end - place; fault = 0 }) (checked_at text at)
    checked = good_word text at place p end 0 end_is e (sym (ap (λ (b : Bool). cond {A = ℕ} b 0 3) (le-leb (end - place) 64 short)))

    pub at_place : place ≡ (word_at text at).place
    at_place = ap (λ (c : Checked). c.place) checked

    pub so_long : end - place ≡ (word_at text at).len
    so_long = ap (λ (c : Checked). c.len) checked

    pub bytes_are : part text place (end - place) ≡ word_bytes text at
    bytes_are = λ i. part text (at_place i) (so_long i)

    pub passes : (before lines : ℕ) → line_at text at + before ≡ line_at text place → line_at text end + lines ≡ line_at text (end + 1) → Passes text at (end + 1) (before + lines)
    passes before lines b n = record {
      some_bytes = omega (arith, so_long);
      fine = sym (ap (λ (c : Checked). c.fault) checked);
      behind = omega (arith, at_place, so_long);
      lines_on = omega (arith, line_kept);
    }

-- ---- what is answered

-- the run of good bytes
module _ (text : Bytes) (at place end : ℕ) (p : place ≡ past is_blank text at) (q : end ≡ past is_good text place) where
  pub run_within : (place ≤ end) × (end ≤ length text)
  run_within = (omega (arith, p, q, past_most is_blank text at, past_least is_good text place), omega (arith, q, past_most is_good text place))

  run_good : all is_good (part text place (end - place)) ≡ true
  run_good = let n : end - place ≡ run is_good (drop place text) = omega (arith, q, past_run is_good text place (omega (arith, run_within))) in ap (λ (k : ℕ). all is_good (take k (drop place text))) n ∙ run_all is_good (drop place text)

  pub word_passes : (end - place ≡ 0 → ⊥) → end - place ≤ 64 → ends_word text end ≡ true → (before lines : ℕ) → line_at text at + before ≡ line_at text place → line_at text end + lines ≡ line_at text (end + 1)
      → PassesWord text at (record { place = place; len = end - place; next = end + 1; before = before; lines = before + lines })
  word_passes filled short e before lines b n =
      let s : place < end = omega (arith, run_within) in
      let l = run_within.1 in
      record {
        passes = passes text at place end p s l run_good e short before lines b n;
        place_is = at_place text at place end p s l run_good e short;
        len_is = so_long text at place end p s l run_good e short;
        lines_before = b;
      }

-- ---- one digit

one_byte : (text : Bytes) (place : ℕ) → place < length text → part text place (place + 1 - place) ≡ get_or text place 0 ∷ []
one_byte text place h = let k : place + 1 - place ≡ 1 = omega arith in ap (λ (n : ℕ). take n (drop place text)) k ∙ ap (take 1) (drop-cons text place 0 h)

digit_good : (b : ℕ) → is_digit b ≡ true → is_good b ≡ true
unfolding is_good
digit_good b e = rw (le-leb 33 b (omega (arith, digit_low b e)), le-leb b 126 (omega (arith, digit_high b e)))

one_value : (b : ℕ) → value_from 0 (b ∷ []) ≡ b - 48
unfolding value_from
one_value b = omega arith

one_digit : (b : ℕ) → is_digit b ≡ true → count_of (b ∷ []) ≡ some (b - 48)
unfolding count_of digits all
one_digit b e = rw e (ap some (one_value b))

module _ (text : Bytes) (at place : ℕ) (p : place ≡ past is_blank text at) (l : place < length text) (d : is_digit (get_or text place 0) ≡ true) (e : ends_word text (place + 1) ≡ true) where
  all_good : all is_good (part text place (place + 1 - place)) ≡ true
  unfolding all
  all_good = ap (all is_good) (one_byte text place l) ∙ rw (digit_good (get_or text place 0) d)

  pub digit_passes : (before lines value : ℕ) → line_at text at + before ≡ line_at text place → line_at text (place + 1) + lines ≡ line_at text (place + 1 + 1) → value ≡ get_or text place 0 - 48
      → PassesCount text at (record { value = value; next = place + 1 + 1; lines = before + lines })
  digit_passes before lines value b n v =
      let short : place + 1 - place ≤ 64 = omega arith in
      record {
        passes = passes text at place (place + 1) p (omega arith) (omega arith) all_good e short before lines b n;
        value_is = ap count_of (sym (bytes_are text at place (place + 1) p (omega arith) (omega arith) all_good e short) ∙ one_byte text place l) ∙ one_digit (get_or text place 0) d ∙ ap some (sym v);
      }

-- a longer count
pub long_passes : (text : Bytes) (at : ℕ) (w : Passed) (n : ℕ) (b : Bytes) → PassesWord text at w → b ≡ part text w.place w.len → some n ≡ count_of b
    → PassesCount text at (record { value = n; next = w.next; lines = w.lines })
long_passes text at w n b W q c =
    record { passes = W.passes; value_is = ap count_of (sym (q ∙ (λ i. part text (W.place_is i) (W.len_is i)))) ∙ sym c }

-- ---- a numeral

pub real_passes : (text : Bytes) (at place : ℕ) → place ≡ past is_blank text at → (n : Scanned) → ReadAt text place n → n.end - place ≤ 64 → (before lines : ℕ) → line_at text at + before ≡ line_at text place → line_at text n.end + lines ≡ line_at text (n.end + 1)
    → PassesReal text at (record { value = n.value; next = n.end + 1; lines = before + lines })
real_passes text at place p n r short before lines b l = record {
  passes = passes text at place n.end p r.some_bytes r.within r.good_bytes r.ended short before lines b l;
  value_is = ap numeral_of (sym (bytes_are text at place n.end p r.some_bytes r.within r.good_bytes r.ended short)) ∙ r.value_is;
}

-- where a word ends that was passed
pub passed_on : (text : Bytes) (at next lines : ℕ) → Passes text at next lines → (at < next) × (next ≤ length text + 1) × (at ≤ (word_at text at).place) × ((word_at text at).place < length text)
unfolding word_at
passed_on text at next lines P =
    let place = past is_blank text at in
    let size = run is_other (drop place text) in
    let here : place < length text = omega (arith, P.some_bytes, run_length is_other (drop place text), length-drop place text) in
    let from : at ≤ place = omega (arith, past_least is_blank text at) in
    let fits : place + size ≤ length text = omega (arith, run_length is_other (drop place text), length-drop place text) in
    (omega (arith, P.behind, P.some_bytes), omega (arith, P.behind), from, here)

-- ---- a comment

-- no line ends within a line
in_line : (w : Bytes) → all is_in_line w ≡ true → newlines w ≡ 0
unfolding newlines all is_in_line
in_line [] h = refl
in_line (b ∷ w) h = rw (not-true (eqb b 10) (and_left (not (eqb b 10)) (all is_in_line w) h)) (in_line w (and_right (not (eqb b 10)) (all is_in_line w) h))

module _ (text : Bytes) (at place end : ℕ) (p : place ≡ past is_blank text at) (l : place < length text) (e : end ≡ past is_in_line text place) where
  line_within : (place ≤ end) × (end ≤ length text)
  line_within = (omega (arith, e, past_least is_in_line text place), omega (arith, e, past_most is_in_line text place))

  line_stays : line_at text end ≡ line_at text place
  line_stays =
      let n : end - place ≡ run is_in_line (drop place text) = omega (arith, e, past_run is_in_line text place (omega arith)) in
      let a : all is_in_line (part text place (end - place)) ≡ true = ap (λ (k : ℕ). all is_in_line (take k (drop place text))) n ∙ run_all is_in_line (drop place text) in
      omega (arith, line_on text place end line_within.0, in_line (part text place (end - place)) a)

  -- the comment's mark is no blank, so a word stands there
  word_there : 0 < (word_at text at).len
  unfolding word_at is_other
  word_there =
      let other : is_blank (get_or text (past is_blank text at) 0) ≡ false = past_fails is_blank text at 0 (omega (arith, p)) in
      omega (arith, ap (run is_other) (drop-cons text (past is_blank text at) 0 (omega (arith, p))), run_more is_other (get_or text (past is_blank text at) 0) (drop (suc (past is_blank text at)) text) (ap not other))

  pub comment_passes : get_or text place 0 ≡ 35 → (before lines : ℕ) → line_at text at + before ≡ line_at text place → line_at text end + lines ≡ line_at text (end + 1) → PassesComment text at (record { next = end + 1; lines = before + lines })
  unfolding word_at
  comment_passes o before lines b n = record {
    some_bytes = word_there;
    opens = ap (λ (k : ℕ). get_or text k 0) (sym p) ∙ o;
    behind = ap (λ (k : ℕ). k + 1) (e ∙ ap (past is_in_line text) p);
    further = omega (arith, p, past_least is_blank text at, line_within);
    within = omega (arith, p, past_least is_blank text at);
    lines_on = omega (arith, line_stays);
  }

  pub comment_end : end < length text + 1
  comment_end = omega (arith, line_within)
