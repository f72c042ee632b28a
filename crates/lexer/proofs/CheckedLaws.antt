-- A run of good bytes up to a blank or the text's end is the word, and the word is good.
use mathlib.Core.Bool.{Bool, true, false, ◌||◌, cond}
use mathlib.Core.List.{[], ◌∷◌}
use mathlib.Core.Logic.{◌⊎◌, inl, inr}
use mathlib.Core.Path.{◌≡◌, refl, ap, sym, ◌∙◌}
use Prim.Native.Nat.{ℕ, suc, ◌+◌, ◌-◌, ◌≤◌, ◌<◌}
use native.Mathlib.Omega.{arith}
use borrow.Author.Tests.{leb-true}
use lib.Dec.{leb}
use lib.ListN.{length, length-drop, take, drop, get_or}
use lib.Seq.{get_or-drop, length-take-le}
use Rattle.laws.proofs.RunLaws.{past_most, past_run, run_all, run_length, run_short, run_whole}
use Rattle.laws.specs.Bytes.{Bytes, part}
use Rattle.laws.specs.Runs.{all, past, run}
use Rattle.lexer.proofs.ClassLaws.{blank_not_good}
use Rattle.lexer.proofs.WordLaws.{scanned}
use Rattle.lexer.specs.Class.{is_blank, is_good, is_other}
use Rattle.lexer.specs.Word.{Checked, checked_at, ends_word, word_at, word_fault}
use Rattle.lexer.specs.declared.Word.{Word}

good_other : (b : ℕ) → is_good b ≡ true → is_other b ≡ true
unfolding is_other
good_other b g = go (is_blank b) refl
  where
    go : (c : Bool) → is_blank b ≡ c → is_other b ≡ true
    go true e = absurd (mathlib.Core.Bool.true≢false (sym g ∙ blank_not_good b e))
    go false e = rw e

blank_ends : (b : ℕ) → is_blank b ≡ true → is_other b ≡ false
unfolding is_other
blank_ends b e = rw e

-- behind the run the list ends, or a blank stands there
abbrev Ends : Bytes → Type 0
Ends xs = (length xs ≤ run is_good xs) ⊎ (is_blank (get_or xs (run is_good xs) 0) ≡ true)

same_run : (xs : Bytes) → Ends xs → run is_other xs ≡ run is_good xs
unfolding run
same_run [] e = refl
same_run (b ∷ xs) e = go (is_good b) refl e (same_run xs)
  where
    go : (g : Bool) → is_good b ≡ g
        → (suc (length xs) ≤ cond g (suc (run is_good xs)) 0) ⊎ (is_blank (get_or (b ∷ xs) (cond g (suc (run is_good xs)) 0) 0) ≡ true)
        → (Ends xs → run is_other xs ≡ run is_good xs) → cond (is_other b) (suc (run is_other xs)) 0 ≡ cond g (suc (run is_good xs)) 0
    go true q (inl h) ih = (λ i. cond (good_other b q i) (suc (ih (inl (omega arith)) i)) 0)
    go true q (inr h) ih = (λ i. cond (good_other b q i) (suc (ih (inr h) i)) 0)
    go false q (inl h) ih = absurd (omega arith)
    go false q (inr h) ih = ap (λ (c : Bool). cond c (suc (run is_other xs)) 0) (blank_ends b h)

module _ (text : Bytes) (at place : ℕ) (p : place ≡ past is_blank text at) where
  within : place ≤ length text
  within = omega (arith, p, past_most is_blank text at)

  -- the run of good bytes from the place on
  ends_there : (end : ℕ) → end ≡ past is_good text place → ends_word text end ≡ true → Ends (drop place text)
  unfolding ends_word
  ends_there end e h = go (leb (length text) end) refl (is_blank (get_or text end 0)) refl h
    where
      n : end ≡ place + run is_good (drop place text)
      n = e ∙ past_run is_good text place within

      go : (a : Bool) → leb (length text) end ≡ a → (b : Bool) → is_blank (get_or text end 0) ≡ b → (a || b) ≡ true → Ends (drop place text)
      go true q b r t = inl (omega (arith, leb-true (length text) end q, n, length-drop place text))
      go false q true r t = inr (ap is_blank (get_or-drop place text (run is_good (drop place text)) 0 ∙ ap (λ (k : ℕ). get_or text k 0) (sym n)) ∙ r)
      go false q false r t = absurd (mathlib.Core.Bool.false≢true t)

  pub good_word : (end f : ℕ) → end ≡ past is_good text place → ends_word text end ≡ true → f ≡ cond (leb (end - place) 64) 0 3 → ◌≡◌ {A = Checked} (record { place = place; len = end - place; fault = f }) (checked_at text at)
  unfolding word_at word_fault
  good_word end f e h q =
      let xs : Bytes = drop place text in
      let n : end - place ≡ run is_good xs = omega (arith, e, past_run is_good text place within) in
      let s : run is_other xs ≡ run is_good xs = same_run xs (ends_there end e h) in
      let long : length (take (run is_good xs) xs) ≡ run is_good xs = length-take-le (run is_good xs) xs (run_length is_good xs) in
      let f' : f ≡ word_fault (take (run is_other xs) xs) =
      q ∙ ap (λ (k : ℕ). cond (leb k 64) 0 3) (n ∙ sym long) ∙ sym (ap (λ (c : Bool). cond c (cond (leb (length (take (run is_good xs) xs)) 64) 0 3) 2) (run_all is_good xs)) ∙ ap (λ (k : ℕ). word_fault (take k xs)) (sym s) in
      (λ i. record { place = place; len = (n ∙ sym s) i; fault = f' i }) ∙ (λ i. record { place = p i; len = run is_other (drop (p i) text); fault = word_fault (part text (p i) (run is_other (drop (p i) text))) })

  pub other_word : (end f : ℕ) → end ≡ past is_other text place → f ≡ word_fault (part text place (end - place)) → ◌≡◌ {A = Checked} (record { place = place; len = end - place; fault = f }) (checked_at text at)
  other_word end f e q =
      let w : ◌≡◌ {A = Word} (record { place = place; len = end - place }) (word_at text at) = scanned text at place end p e in
      λ i. record { place = (w i).place; len = (w i).len; fault = (q ∙ (λ j. word_fault (part text (w j).place (w j).len))) i }

-- ---- the bytes of a word

pub bad_within : (w : Bytes) (end : ℕ) → end ≡ past is_good w 0 → end < length w → all is_good w ≡ false
bad_within w end e h = run_short is_good w (omega (arith, e, past_run is_good w 0 (omega arith)))

pub good_whole : (w : Bytes) (end : ℕ) → end ≡ past is_good w 0 → length w ≤ end → all is_good w ≡ true
good_whole w end e h = run_whole is_good w (omega (arith, e, past_run is_good w 0 (omega arith)))
