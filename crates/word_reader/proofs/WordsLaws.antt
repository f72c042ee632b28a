-- Handing out words until an empty one visits exactly the words of the text, in order, each once.
use mathlib.Core.Bool.{Bool, true, false, cond}
use mathlib.Core.List.{List, [], ◌∷◌}
use mathlib.Core.Logic.{◌⊎◌, inl, inr}
use mathlib.Core.Path.{◌≡◌, refl, sym, ap, ◌∙◌, subst}
use Prim.Native.Nat.{ℕ, zero, suc, ◌+◌, ◌≤◌, ◌<◌}
use native.Mathlib.Omega.{arith}
use borrow.Author.Tests.{eq-eqb, ne_eqb, lt-ltb}
use lib.Dec.{ltb}
use lib.ListN.{length, drop, get_or, drop_of_length-le}
use lib.Seq.{drop-length, drop-cons, drop-drop}
use Rattle.laws.proofs.NatLaws.{le_or_lt}
use Rattle.laws.proofs.RunLaws.{run_more, past_end, past_run, past_fails}
use Rattle.laws.specs.Bytes.{Bytes}
use Rattle.laws.specs.Runs.{all, run, past}
use Rattle.lexer.proofs.WordLaws.{place_least, end_most}
use Rattle.lexer.specs.Class.{is_blank, is_other}
use Rattle.lexer.specs.Word.{word_at, word_end}
use Rattle.lexer.specs.declared.Word.{Word}
use Rattle.word_reader.specs.Words.{words_from, words_in, words_left, handed_out}

other : (b : ℕ) → is_blank b ≡ false → is_other b ≡ true
unfolding is_other
other b e = rw e

no_other : (b : ℕ) → is_blank b ≡ true → is_other b ≡ false
unfolding is_other
no_other b e = rw e

-- the word that starts a list of bytes, at a place
abbrev starts_at : ℕ → Bytes → Word
starts_at at rest = record { place = at; len = run is_other rest }

-- what one byte does: a blank is passed over, and another byte starts a word or goes on with one
module _ (b : ℕ) (rest : Bytes) (at : ℕ) where
  over_blank : (inside : Bool) → is_other b ≡ false → words_from inside at (b ∷ rest) ≡ words_from false (suc at) rest
  unfolding words_from
  over_blank inside e = rw e

  goes_on : is_other b ≡ true → words_from true at (b ∷ rest) ≡ words_from true (suc at) rest
  unfolding words_from
  goes_on e = rw e

  starts : is_other b ≡ true → words_from false at (b ∷ rest) ≡ starts_at at (b ∷ rest) ∷ words_from true (suc at) rest
  unfolding words_from
  starts e = rw e

no_bytes : (inside : Bool) (at : ℕ) → words_from inside at [] ≡ []
unfolding words_from
no_bytes inside at = refl

-- the words from a place on, as seen from `n` bytes later
abbrev onward : ℕ → Bytes → ℕ → List Word
onward at rest n = words_from false (at + n) (drop n rest)

step : (b : ℕ) (rest : Bytes) (at n : ℕ) → onward (suc at) rest n ≡ onward at (b ∷ rest) (suc n)
step b rest at n = ap (λ (k : ℕ). words_from false k (drop n rest)) (omega arith)

stay : (rest : Bytes) (at : ℕ) → words_from false at rest ≡ onward at rest 0
stay rest at = ap (λ (k : ℕ). words_from false k rest) (omega arith)

-- no word starts in a run of blanks, nor in the rest of a word
over_blanks : (rest : Bytes) (at : ℕ) → words_from false at rest ≡ onward at rest (run is_blank rest)
unfolding run
over_blanks [] at = stay [] at
over_blanks (b ∷ rest) at = go (is_blank b) refl (over_blanks rest (suc at))
  where
    go : (t : Bool) → is_blank b ≡ t → words_from false (suc at) rest ≡ onward (suc at) rest (run is_blank rest) → words_from false at (b ∷ rest) ≡ onward at (b ∷ rest) (cond t (suc (run is_blank rest)) 0)
    go true e ih = over_blank b rest at false (no_other b e) ∙ ih ∙ step b rest at (run is_blank rest)
    go false e ih = stay (b ∷ rest) at

over_word : (rest : Bytes) (at : ℕ) → words_from true at rest ≡ onward at rest (run is_other rest)
unfolding run
over_word [] at = no_bytes true at ∙ sym (no_bytes false (at + 0))
over_word (b ∷ rest) at = go (is_other b) refl (over_word rest (suc at))
  where
    go : (t : Bool) → is_other b ≡ t → words_from true (suc at) rest ≡ onward (suc at) rest (run is_other rest) → words_from true at (b ∷ rest) ≡ onward at (b ∷ rest) (cond t (suc (run is_other rest)) 0)
    go true e ih = goes_on b rest at e ∙ ih ∙ step b rest at (run is_other rest)
    go false e ih = over_blank b rest at true e ∙ sym (over_blank b rest at false e) ∙ stay (b ∷ rest) at

-- a word that starts here is followed by the words behind it
word_first : (b : ℕ) (rest : Bytes) (at : ℕ) → is_other b ≡ true → words_from false at (b ∷ rest) ≡ starts_at at (b ∷ rest) ∷ onward at (b ∷ rest) (run is_other (b ∷ rest))
word_first b rest at e =
    starts b rest at e ∙ ap (λ (ws : List Word). starts_at at (b ∷ rest) ∷ ws)
    (over_word rest (suc at) ∙ step b rest at (run is_other rest) ∙ ap (onward at (b ∷ rest)) (sym (run_more is_other b rest e)))

-- what a reader hands out at a place: nothing where the word there is empty, else the word and what it hands out behind it
module _ (text : Bytes) (at : ℕ) where
  none_out : (most : ℕ) → (word_at text at).len ≡ 0 → handed_out most text at ≡ []
  unfolding handed_out
  none_out zero e = refl
  none_out (suc most) e = rw (eq-eqb _ _ e)

  one_out : (most : ℕ) → 0 < (word_at text at).len → handed_out (suc most) text at ≡ word_at text at ∷ handed_out most text (word_end text at)
  unfolding handed_out
  one_out most h = rw (ne_eqb (word_at text at).len 0 (λ e. omega arith))

  -- the words from a place on begin at the word there
  from_word : at ≤ length text → words_from false at (drop at text) ≡ words_from false (word_at text at).place (drop (word_at text at).place text)
  unfolding word_at
  from_word h =
      over_blanks (drop at text) at ∙ ap (words_from false (at + run is_blank (drop at text))) (drop-drop (run is_blank (drop at text)) at text)
      ∙ ap (λ (k : ℕ). words_from false k (drop k text)) (sym (past_run is_blank text at h))

  -- a word that ends the text is empty, and any other has a byte and is followed by the words behind it
  last_word : length text ≤ (word_at text at).place → (word_at text at).len ≡ 0
  unfolding word_at run
  last_word h = rw (drop_of_length-le text h)

  starts_other : (word_at text at).place < length text → is_other (get_or text (word_at text at).place 0) ≡ true
  unfolding word_at
  starts_other h = other _ (past_fails is_blank text at 0 h)

  has_byte_lem : (word_at text at).place < length text → 0 < (word_at text at).len
  unfolding word_at
  has_byte_lem h =
      let p = past is_blank text at in
      let e : run is_other (drop p text) ≡ suc (run is_other (drop (suc p) text)) = ap (run is_other) (drop-cons text p 0 h) ∙ run_more is_other _ _ (starts_other h) in
      omega arith

  word_then : (word_at text at).place < length text → words_from false (word_at text at).place (drop (word_at text at).place text) ≡ word_at text at ∷ words_from false (word_end text at) (drop (word_end text at) text)
  unfolding word_at
  word_then h =
      let p = past is_blank text at in
      let split = drop-cons text p 0 h in
      subst (λ (xs : Bytes). words_from false p xs ≡ starts_at p xs ∷ onward p xs (run is_other xs)) (sym split) (word_first _ _ p (starts_other h))
      ∙ ap (λ (xs : Bytes). word_at text at ∷ words_from false (word_end text at) xs) (drop-drop (run is_other (drop p text)) p text)

-- what is left from a place on: nothing where the word there is empty, else the word and what is left behind it
module _ (text : Bytes) (at : ℕ) where
  left_at_end : length text ≤ (word_at text at).place → words_left text at ≡ []
  left_at_end h = go (le_or_lt at (length text))
    where
      go : (at ≤ length text) ⊎ (length text < at) → words_left text at ≡ []
      go (inl l) = from_word text at l ∙ ap (words_from false (word_at text at).place) (drop_of_length-le text h) ∙ no_bytes false (word_at text at).place
      go (inr l) = ap (words_from false at) (drop_of_length-le text {i = at} (omega arith)) ∙ no_bytes false at

  pub none_left : (word_at text at).len ≡ 0 → words_left text at ≡ []
  none_left e = go (le_or_lt (length text) (word_at text at).place)
    where
      go : (length text ≤ (word_at text at).place) ⊎ ((word_at text at).place < length text) → words_left text at ≡ []
      go (inl h) = left_at_end h
      go (inr h) = absurd (omega (arith, has_byte_lem text at h, e))

  pub one_left : 0 < (word_at text at).len → words_left text at ≡ word_at text at ∷ words_left text (word_end text at)
  one_left e = go (le_or_lt (length text) (word_at text at).place)
    where
      go : (length text ≤ (word_at text at).place) ⊎ ((word_at text at).place < length text) → words_left text at ≡ word_at text at ∷ words_left text (word_end text at)
      go (inl h) = absurd (omega (arith, last_word text at h, e))
      go (inr h) = from_word text at (omega (arith, place_least text at, h)) ∙ word_then text at h

-- from any place on, and for any number that is enough
handed_from : (most : ℕ) (text : Bytes) (at : ℕ) → at ≤ length text → length text ≤ at + most → handed_out most text at ≡ words_from false at (drop at text)
handed_from zero text at l m = none_out text at 0 (last_word text at (omega (arith, place_least text at))) ∙ sym (ap (words_from false at) (drop_of_length-le text {i = at} (omega arith)) ∙ no_bytes false at)
handed_from (suc most) text at l m = go (le_or_lt (length text) (word_at text at).place) (handed_from most text (word_end text at))
  where
    go : (length text ≤ (word_at text at).place) ⊎ ((word_at text at).place < length text)
        → (word_end text at ≤ length text → length text ≤ word_end text at + most → handed_out most text (word_end text at) ≡ words_from false (word_end text at) (drop (word_end text at) text))
        → handed_out (suc most) text at ≡ words_from false at (drop at text)
    go (inl h) ih =
        none_out text at (suc most) (last_word text at h) ∙ sym (from_word text at l ∙ ap (words_from false (word_at text at).place) (drop_of_length-le text h) ∙ no_bytes false (word_at text at).place)
    go (inr h) ih =
        one_out text at most (has_byte_lem text at h) ∙ ap (λ (ws : List Word). word_at text at ∷ ws) (ih (end_most text at) (omega (arith, place_least text at, has_byte_lem text at h))) ∙ sym (from_word text at l ∙ word_then text at h)

-- "hands out one word at a time": until an empty one, it hands out the words of the text, in order, each once
pub handed_out_is_words : (text : Bytes) (most : ℕ) → length text ≤ most → handed_out most text 0 ≡ words_in text
unfolding words_in
handed_out_is_words text most h = handed_from most text 0 (omega arith) (omega arith)

-- none of them is empty
abbrev has_byte : Word → Bool
has_byte w = ltb 0 w.len

none_empty : (w : Word) (ws : List Word) → 0 < w.len → all has_byte ws ≡ true → all has_byte (w ∷ ws) ≡ true
unfolding all
none_empty w ws h e = rw (lt-ltb 0 w.len h) e

each_from : (rest : Bytes) (inside : Bool) (at : ℕ) → all has_byte (words_from inside at rest) ≡ true
unfolding all words_from
each_from [] inside at = refl
each_from (b ∷ rest) inside at = go (is_other b) refl inside (λ within. each_from rest within (suc at))
  where
    go : (t : Bool) → is_other b ≡ t → (inside : Bool) → ((within : Bool) → all has_byte (words_from within (suc at) rest) ≡ true) → all has_byte (words_from inside at (b ∷ rest)) ≡ true
    go false e inside ih = ap (all has_byte) (over_blank b rest at inside e) ∙ ih false
    go true e true ih = ap (all has_byte) (goes_on b rest at e) ∙ ih true
    go true e false ih = ap (all has_byte) (starts b rest at e) ∙ none_empty (starts_at at (b ∷ rest)) (words_from true (suc at) rest) (omega (arith, run_more is_other b rest e)) (ih true)

pub each_has_bytes : (text : Bytes) → all has_byte (words_in text) ≡ true
unfolding words_in
each_has_bytes text = each_from text false 0

-- "at or past the end gives an empty word at the text length"
pub empty_at_end : (text : Bytes) (at : ℕ) → length text ≤ at → word_at text at ≡ record { place = length text; len = 0 }
unfolding word_at run
empty_at_end text at h = ap (λ (p : ℕ). starts_at p (drop p text)) (past_end is_blank text at h) ∙ ap (starts_at (length text)) (drop-length text)
