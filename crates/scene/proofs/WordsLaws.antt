-- The words of a text byte by byte, as the reading meets them, are the lexer's words.
use mathlib.Core.Bool.{Bool, true, false, cond}
use mathlib.Core.List.{List, [], ◌∷◌, ◌++◌, append_assoc, append-nil}
use mathlib.Core.Logic.{◌⊎◌, inl, inr}
use mathlib.Core.Path.{◌≡◌, refl, ap, sym, ◌∙◌, subst}
use Prim.Native.Nat.{ℕ, suc, ◌+◌, ◌≤◌, ◌<◌}
use native.Mathlib.Omega.{arith}
use lib.ListN.{length, length-append, take, drop, drop_of_length-le}
use lib.Seq.{drop-drop, drop-append-le}
use Rattle.laws.proofs.NatLaws.{le_or_lt}
use Rattle.laws.proofs.RunLaws.{past_run}
use Rattle.laws.specs.Bytes.{Bytes, part}
use Rattle.laws.specs.Runs.{run, past}
use Rattle.lexer.proofs.WordLaws.{end_most}
use Rattle.lexer.specs.Class.{is_blank, is_other}
use Rattle.lexer.specs.Word.{word_at}
use Rattle.scene.specs.Reading.{newline}
use Rattle.scene.specs.Told.{words_from}

-- between words, or inside one with its bytes so far
pub data Spot : Type 0 where
  between : Spot
  inside : Bytes → Spot

abbrev pub words_step : Bool → Spot → ℕ → List Bytes × Spot
words_step true between b = ([], between)
words_step false between b = ([], inside (b ∷ []))
words_step true (inside w) b = (w ∷ [], between)
words_step false (inside w) b = ([], inside (w ++ b ∷ []))

-- the words that a blank ends
unfoldable pub words_in : Spot → Bytes → List Bytes
words_in m [] = []
words_in m (b ∷ t) = (words_step (is_blank b) m b).0 ++ words_in (words_step (is_blank b) m b).1 t

module _ (b : ℕ) where
  gap_blank : (t : Bytes) → is_blank b ≡ true → words_in between (b ∷ t) ≡ words_in between t
  unfolding words_in
  gap_blank t e = λ i. (words_step (e i) between b).0 ++ words_in (words_step (e i) between b).1 t

  gap_other : (t : Bytes) → is_blank b ≡ false → words_in between (b ∷ t) ≡ words_in (inside (b ∷ [])) t
  unfolding words_in
  gap_other t e = λ i. (words_step (e i) between b).0 ++ words_in (words_step (e i) between b).1 t

  word_blank : (w t : Bytes) → is_blank b ≡ true → words_in (inside w) (b ∷ t) ≡ w ∷ words_in between t
  unfolding words_in
  word_blank w t e = λ i. (words_step (e i) (inside w) b).0 ++ words_in (words_step (e i) (inside w) b).1 t

  word_other : (w t : Bytes) → is_blank b ≡ false → words_in (inside w) (b ∷ t) ≡ words_in (inside (w ++ b ∷ [])) t
  unfolding words_in
  word_other w t e = λ i. (words_step (e i) (inside w) b).0 ++ words_in (words_step (e i) (inside w) b).1 t

  run_blank : (t : Bytes) → is_blank b ≡ true → run is_other (b ∷ t) ≡ 0
  unfolding run is_other
  run_blank t e = rw e

  run_other : (t : Bytes) → is_blank b ≡ false → run is_other (b ∷ t) ≡ suc (run is_other t)
  unfolding run is_other
  run_other t e = rw e

-- blanks before a word are skipped
skip : (t z : Bytes) → words_in between (t ++ z) ≡ words_in between (drop (run is_blank t) t ++ z)
unfolding run
skip [] z = refl
skip (b ∷ t) z = go (is_blank b) refl (skip t z)
  where
    go : (c : Bool) → is_blank b ≡ c → words_in between (t ++ z) ≡ words_in between (drop (run is_blank t) t ++ z) → words_in between (b ∷ t ++ z) ≡ words_in between (drop (cond c (suc (run is_blank t)) 0) (b ∷ t) ++ z)
    go true e h = gap_blank b (t ++ z) e ∙ h
    go false e h = refl

-- the rest of a word, up to the blank that ends it
abbrev Rest : Bytes → Bytes → Type 0
Rest w u = words_in (inside w) (u ++ newline) ≡ (w ++ take (run is_other u) u) ∷ words_in between (drop (run is_other u) u ++ newline)

rest : (w u : Bytes) → Rest w u
unfolding run
rest w [] = word_blank 10 w [] (unfold is_blank in refl) ∙ (λ i. sym (append-nil w) i ∷ sym (gap_blank 10 [] (unfold is_blank in refl)) i)
rest w (b ∷ u) = go (is_blank b) refl (rest (w ++ b ∷ []) u)
  where
    go : (c : Bool) → is_blank b ≡ c → Rest (w ++ b ∷ []) u → Rest w (b ∷ u)
    go true e h =
        word_blank b w (u ++ newline) e
        ∙ (λ i. sym (append-nil w) i ∷ sym (gap_blank b (u ++ newline) e) i)
        ∙ ap {B = List Bytes} (λ (k : ℕ). (w ++ take k (b ∷ u)) ∷ words_in between (drop k (b ∷ u) ++ newline)) (sym (run_blank b u e))
    go false e h =
        word_other b w (u ++ newline) e ∙ h
        ∙ (λ i. append_assoc w (b ∷ []) (take (run is_other u) u) i ∷ words_in between (drop (run is_other u) u ++ newline))
        ∙ ap {B = List Bytes} (λ (k : ℕ). (w ++ take k (b ∷ u)) ∷ words_in between (drop k (b ∷ u) ++ newline)) (sym (run_other b u e))

-- where the blanks are behind, the first word is the run of other bytes, and where nothing is left there is none
abbrev Next : Bytes → Type 0
Next u = words_in between (u ++ newline) ≡ take (run is_other u) u ∷ words_in between (drop (run is_other u) u ++ newline)

next : (b : ℕ) (u : Bytes) → is_blank b ≡ false → Next (b ∷ u)
next b u e =
    gap_other b (u ++ newline) e ∙ rest (b ∷ []) u
    ∙ ap {B = List Bytes} (λ (k : ℕ). take k (b ∷ u) ∷ words_in between (drop k (b ∷ u) ++ newline)) (sym (run_other b u e))

-- the head of what is left behind a run of blanks is no blank
unblank : (t : Bytes) → Next (drop (run is_blank t) t) ⊎ (drop (run is_blank t) t ≡ [])
unfolding run
unblank [] = inr refl
unblank (b ∷ t) = go (is_blank b) refl (unblank t)
  where
    go : (c : Bool) → is_blank b ≡ c → Next (drop (run is_blank t) t) ⊎ (drop (run is_blank t) t ≡ []) → Next (drop (cond c (suc (run is_blank t)) 0) (b ∷ t)) ⊎ (drop (cond c (suc (run is_blank t)) 0) (b ∷ t) ≡ [])
    go true e h = h
    go false e h = inl (next b t e)

-- ---- in a text, from a place on

-- the words from k on are the lexer's word and those from behind it on, or none
abbrev WordsNext : Bytes → ℕ → Type 0
WordsNext text k =
    (words_in between (drop k (text ++ newline)) ≡ part text (word_at text k).place (word_at text k).len ∷ words_in between (drop ((word_at text k).place + (word_at text k).len) (text ++ newline)))
    ⊎ (words_in between (drop k (text ++ newline)) ≡ [])

module _ (text : Bytes) (k : ℕ) (l : k ≤ length text) where
  at_word : drop (word_at text k).place text ≡ drop (run is_blank (drop k text)) (drop k text)
  unfolding word_at
  at_word = ap (λ (n : ℕ). drop n text) (past_run is_blank text k l) ∙ sym (drop-drop (run is_blank (drop k text)) k text)

  words_at : words_in between (drop k (text ++ newline)) ≡ words_in between (drop (word_at text k).place text ++ newline)
  words_at =
      ap (words_in between) (drop-append-le k text newline l) ∙ skip (drop k text) newline
      ∙ ap (λ (u : Bytes). words_in between (u ++ newline)) (sym at_word)

  behind : drop (run is_other (drop (word_at text k).place text)) (drop (word_at text k).place text) ++ newline ≡ drop ((word_at text k).place + (word_at text k).len) (text ++ newline)
  unfolding word_at
  behind =
      ap {B = Bytes} (λ (z : Bytes). z ++ newline) (drop-drop (run is_other (drop (past is_blank text k) text)) (past is_blank text k) text)
      ∙ sym (drop-append-le (past is_blank text k + run is_other (drop (past is_blank text k) text)) text newline (end_most text k))

  words_next : WordsNext text k
  unfolding word_at
  words_next = go (subst (λ (u : Bytes). Next u ⊎ (u ≡ [])) (sym at_word) (unblank (drop k text)))
    where
      go : Next (drop (word_at text k).place text) ⊎ (drop (word_at text k).place text ≡ []) → WordsNext text k
      go (inl n) = inl (words_at ∙ n ∙ ap {B = List Bytes} (λ (z : Bytes). part text (word_at text k).place (word_at text k).len ∷ words_in between z) behind)
      go (inr z) = inr (words_at ∙ ap (λ (u : Bytes). words_in between (u ++ newline)) z ∙ gap_blank 10 [] (unfold is_blank in refl) ∙ unfold words_in in refl)

abbrev Later : Bytes → List Bytes → Type 0
Later text ss = (k : ℕ) → take (length ss) (words_in between (drop k (text ++ newline))) ≡ ss → words_from text k (length ss) ≡ ss

pub words_from_lem : (text : Bytes) (k : ℕ) (ss : List Bytes) → take (length ss) (words_in between (drop k (text ++ newline))) ≡ ss → words_from text k (length ss) ≡ ss
unfolding words_from
words_from_lem text k [] h = refl
words_from_lem text k (s ∷ ss) h = go (λ k. words_from_lem text k ss) (le_or_lt k (length text))
  where
    none : words_in between (drop k (text ++ newline)) ≡ [] → words_from text k (suc (length ss)) ≡ s ∷ ss
    none z = let q : [] ≡ s ∷ ss = ap {B = List Bytes} (take (suc (length ss))) (sym z) ∙ h in let y : ◌≡◌ {A = ℕ} 0 1 = cc in absurd (omega arith)

    some : Later text ss → WordsNext text k → words_from text k (suc (length ss)) ≡ s ∷ ss
    some ih (inr z) = none z
    some ih (inl e) =
        let q : part text (word_at text k).place (word_at text k).len ∷ take (length ss) (words_in between (drop ((word_at text k).place + (word_at text k).len) (text ++ newline))) ≡ s ∷ ss = ap {B = List Bytes} (take (suc (length ss))) (sym e) ∙ h in
        let a : part text (word_at text k).place (word_at text k).len ≡ s = cc in
        let b : take (length ss) (words_in between (drop ((word_at text k).place + (word_at text k).len) (text ++ newline))) ≡ ss = cc in
        λ i. a i ∷ ih ((word_at text k).place + (word_at text k).len) b i

    go : Later text ss → (k ≤ length text) ⊎ (length text < k) → words_from text k (suc (length ss)) ≡ s ∷ ss
    go ih (inl l) = some ih (words_next text k l)
    go ih (inr l) = none (ap (words_in between) (drop_of_length-le (text ++ newline) {i = k} (omega (arith, length-append text newline))) ∙ unfold words_in in refl)
