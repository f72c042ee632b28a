-- What is known of the word at or after a place.
use mathlib.Core.Bool.{true, false, cond}
use mathlib.Core.Path.{◌≡◌, sym, ap, ◌∙◌}
use Prim.Native.Nat.{ℕ, suc, ◌+◌, ◌-◌, ◌≤◌, ◌<◌, min}
use native.Mathlib.Omega.{arith}
use borrow.Author.Tests.{not-true, not-false, le-leb}
use lib.Dec.{leb}
use lib.ListN.{length, drop, get_or, length-drop}
use lib.Seq.{get_or-drop}
use Rattle.laws.proofs.RunLaws.{run_length, run_passes, run_stops, past_most, past_least, past_run}
use Rattle.laws.specs.Bytes.{Bytes}
use Rattle.laws.specs.Runs.{all, run, past}
use Rattle.lexer.specs.Class.{is_blank, is_other, is_good}
use Rattle.lexer.specs.Word.{behind_words, word_at, word_end, word_fault}
use Rattle.lexer.specs.declared.Word.{Word}

module _ (text : Bytes) (at : ℕ) where
  -- the code's scan: blanks up to the place, and other bytes up to the end
  pub scanned : (place end : ℕ) → place ≡ past is_blank text at → end ≡ past is_other text place → ◌≡◌ {A = Word} (record { place = place; len = end - place }) (word_at text at)
  unfolding word_at
  scanned place end p e =
      let m = past_most is_blank text at in
      let l : end - place ≡ run is_other (drop place text) = omega (arith, past_run is_other text place (omega arith)) in
      cc

  -- the place is at least `at`, as far as the text goes, and the word's end is at most the text's length
  pub place_least : min at (length text) ≤ (word_at text at).place
  unfolding word_at
  place_least = past_least is_blank text at

  pub end_most : (word_at text at).place + (word_at text at).len ≤ length text
  unfolding word_at
  end_most =
      let p = past is_blank text at in
      omega (arith, past_most is_blank text at, run_length is_other (drop p text), length-drop p text)

  -- no byte of the word is blank
  pub no_blank_within : (k : ℕ) → k < (word_at text at).len → is_blank (get_or text ((word_at text at).place + k) 0) ≡ false
  unfolding word_at is_other
  no_blank_within k h =
      let p = past is_blank text at in
      not-true _ (ap is_other (sym (get_or-drop p text k 0)) ∙ run_passes is_other 0 (drop p text) k h)

  -- what stands behind it is a blank or the text's end
  pub blank_behind : (word_at text at).place + (word_at text at).len < length text → is_blank (get_or text ((word_at text at).place + (word_at text at).len) 0) ≡ true
  unfolding word_at is_other
  blank_behind h =
      let p = past is_blank text at in
      not-false _ (ap is_other (sym (get_or-drop p text (run is_other (drop p text)) 0)) ∙ run_stops is_other 0 (drop p text) (omega (arith, length-drop p text)))

  -- every byte that was skipped is blank: what stands before the word is a blank, or the place where the look began
  pub blank_before : (k : ℕ) → at ≤ k → k < (word_at text at).place → is_blank (get_or text k 0) ≡ true
  unfolding word_at past
  blank_before k h l =
      let e : at + (k - at) ≡ k = omega arith in
      ap is_blank (ap (λ (n : ℕ). get_or text n 0) (sym e) ∙ sym (get_or-drop at text (k - at) 0)) ∙ run_passes is_blank 0 (drop at text) (k - at) (omega (arith, run_length is_blank (drop at text), length-drop at text))

module _ (w : Bytes) where
  pub fault_bad : all is_good w ≡ false → word_fault w ≡ 2
  unfolding word_fault
  fault_bad e = rw e

  pub fault_length : all is_good w ≡ true → word_fault w ≡ cond (leb (length w) 64) 0 3
  unfolding word_fault
  fault_length e = rw e

  pub fault_none : all is_good w ≡ true → length w ≤ 64 → word_fault w ≡ 0
  unfolding word_fault
  fault_none e h = rw (e, le-leb (length w) 64 h)

-- words that are passed over: one more is passed, and all are
pub skipped_more : (text : Bytes) (at count i : ℕ) → i < count → {next : ℕ} → next ≡ word_end text at → behind_words text next (count - (i + 1)) ≡ behind_words text at (count - i)
unfolding behind_words
skipped_more text at count i h e = let m : count - i ≡ suc (count - (i + 1)) = omega arith in rw m (ap (λ (k : ℕ). behind_words text k (count - (i + 1))) e)

pub skipped_all : (text : Bytes) (at count i : ℕ) → count ≤ i → at ≡ behind_words text at (count - i)
unfolding behind_words
skipped_all text at count i h = let m : count - i ≡ 0 = omega arith in rw m
