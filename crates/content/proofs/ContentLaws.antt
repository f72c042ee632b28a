-- Equal content; strings word by word, and the five tests of what a primitive is.
use mathlib.Core.Bool.{Bool, true, false, ◌&&◌, and-true, and-false}
use mathlib.Core.List.{List, [], ◌∷◌}
use mathlib.Core.Path.{◌≡◌, refl, ap, sym, ◌∙◌}
use Prim.Native.Nat.{ℕ, zero, suc, ◌≤◌, ◌<◌}
use native.Mathlib.Omega.{arith}
use borrow.Author.Tests.{eq-eqb, ne_eqb}
use lib.Dec.{eqb}
use lib.Ieee.{Float, binary64, to_bits}
use lib.ListN.{take, drop}
use Rattle.bits.proofs.BitsLaws.{reals_same}
use Rattle.bits.specs.Bits.{same_reals}
use Rattle.keys.proofs.OrderLaws.{eqb_sym, same_sym, key_same, key_sym}
use Rattle.keys.proofs.ScanLaws.{key_bare}
use Rattle.keys.specs.Key.{Key, key_of, same_key}
use Rattle.keys.specs.Rows.{scene_rows}
use Rattle.laws.proofs.BytesLaws.{same_refl}
use Rattle.laws.specs.Bytes.{Bytes, same}
use Rattle.lexer.specs.Word.{word_bytes, word_end}
use Rattle.scene.specs.Record.{record_in}
use Rattle.scene.specs.Told.{tells, words_from, reals_of, strings_of}
use Rattle.content.specs.Content.{Content, content_in, same_but_links, same_content, same_words}

-- ---- equal content

words_same : (ws : List Bytes) → same_words ws ws ≡ true
unfolding same_words
words_same [] = refl
words_same (w ∷ ws) = rw (same_refl w) (words_same ws)

pub content_same : (c : Content) → same_content c c ≡ true
unfolding same_content
content_same c = rw (eq-eqb c.type c.type refl, words_same c.strings, reals_same c.reals, key_same c.alias) (key_same c.modifier)

words_sym : (ws vs : List Bytes) → same_words ws vs ≡ same_words vs ws
unfolding same_words
words_sym [] [] = refl
words_sym [] (v ∷ vs) = refl
words_sym (w ∷ ws) [] = refl
words_sym (w ∷ ws) (v ∷ vs) = λ i. same_sym w v i && words_sym ws vs i

reals_sym : (xs ys : List Float) → same_reals xs ys ≡ same_reals ys xs
unfolding same_reals
reals_sym [] [] = refl
reals_sym [] (y ∷ ys) = refl
reals_sym (x ∷ xs) [] = refl
reals_sym (x ∷ xs) (y ∷ ys) = λ i. eqb_sym (to_bits binary64 x) (to_bits binary64 y) i && reals_sym xs ys i

pub content_sym : (c d : Content) → same_content c d ≡ same_content d c
unfolding same_content
content_sym c d = λ i. eqb_sym c.type d.type i && words_sym c.strings d.strings i && reals_sym c.reals d.reals i && key_sym c.alias d.alias i && key_sym c.modifier d.modifier i

-- ---- words

module _ (a b : Bytes) (i j : ℕ) where
  pub words_end : (n : ℕ) → n ≤ 0 → same_words (words_from a i n) (words_from b j n) ≡ true
  unfolding same_words words_from
  words_end zero h = refl
  words_end (suc n) h = absurd (omega arith)

  module _ (u v : Bytes) (r : Bool) (e : u ≡ word_bytes a i) (f : v ≡ word_bytes b j) (t : r ≡ same u v) where
    word_is : same (word_bytes a i) (word_bytes b j) ≡ r
    word_is = (λ k. same (sym e k) (sym f k)) ∙ sym t

    pub words_stop : (n : ℕ) → 0 < n → r ≡ false → same_words (words_from a i n) (words_from b j n) ≡ false
    unfolding same_words words_from
    words_stop zero h g = absurd (omega arith)
    words_stop (suc n) h g = rw (word_is ∙ g)

    pub words_step : (n m p q : ℕ) → n ≡ suc m → r ≡ true → p ≡ word_end a i → q ≡ word_end b j → same_words (words_from a p m) (words_from b q m) ≡ same_words (words_from a i n) (words_from b j n)
    unfolding same_words words_from
    words_step zero m p q h g x y = absurd (omega arith)
    words_step (suc n) m p q h g x y = let z : m ≡ n = omega arith in (λ k. same_words (words_from a (x k) (z k)) (words_from b (y k) (z k))) ∙ rw (word_is ∙ g)

-- a different count of words
words_count : (a b : Bytes) (i j n m : ℕ) → (n ≡ m → ⊥) → same_words (words_from a i n) (words_from b j m) ≡ false
unfolding same_words words_from
words_count a b i j zero zero h = absurd (h refl)
words_count a b i j zero (suc m) h = refl
words_count a b i j (suc n) zero h = refl
words_count a b i j (suc n) (suc m) h = rw (words_count a b (word_end a i) (word_end b j) n m (λ e. h (ap suc e))) (and-false (same (word_bytes a i) (word_bytes b j)))

-- ---- what two primitives are

module _ (a : Bytes) (ra : List ℕ) (m : ℕ) (b : Bytes) (rb : List ℕ) (n x y : ℕ) (p : x ≡ (record_in ra m).strings) (q : y ≡ (record_in rb n).strings) where
  pub strings_count : (x ≡ y → ⊥) → false ≡ same_words (strings_of a (record_in ra m)) (strings_of b (record_in rb n))
  strings_count h = sym (words_count a b (record_in ra m).string (record_in rb n).string (record_in ra m).strings (record_in rb n).strings (λ e. h (p ∙ e ∙ sym q)))

  pub strings_words : (i j : ℕ) (s : Bool) → x ≡ y → i ≡ (record_in ra m).string → j ≡ (record_in rb n).string → s ≡ same_words (words_from a i x) (words_from b j x) → s ≡ same_words (strings_of a (record_in ra m)) (strings_of b (record_in rb n))
  strings_words i j s h e f g = g ∙ (λ k. same_words (words_from a (e k) (p k)) (words_from b (f k) ((h ∙ q) k)))

-- the keys that two links lead to, by the numbers that they hold
pub links_lead : (key other : ℕ → Key) (i j m n : ℕ) (r : Bool) → i ≡ m → j ≡ n → r ≡ same_key (key i) (other j) → r ≡ same_key (key m) (other n)
links_lead key other i j m n r p q e = e ∙ (λ k. same_key (key (p k)) (other (q k)))

-- a table with no reals has none of a primitive's
no_reals : (k i : ℕ) → ◌≡◌ {A = List Float} (take k (drop i [])) []
no_reals zero i = refl
no_reals (suc k) zero = refl
no_reals (suc k) (suc i) = refl

module _ (a : Bytes) (ra : List ℕ) (m : ℕ) (b : Bytes) (rb : List ℕ) (n : ℕ) where
  -- whether numbers of both lead to the same key
  abbrev linked : ℕ → ℕ → Bool
  linked i j = same_key (key_of (scene_rows a ra []) i) (key_of (scene_rows b rb []) j)

  abbrev bare : Bool
  bare = same_content (content_in a ra [] m) (content_in b rb [] n)

  tests : bare ≡ (eqb (record_in ra m).type (record_in rb n).type && same_words (strings_of a (record_in ra m)) (strings_of b (record_in rb n)) && linked (record_in ra m).target (record_in rb n).target && linked (record_in ra m).modifier (record_in rb n).modifier)
  unfolding same_content same_reals tells
  tests = rw (no_reals (record_in ra m).reals (record_in ra m).real, no_reals (record_in rb n).reals (record_in rb n).real) (ap (λ (x : Bool). x && linked (record_in ra m).target (record_in rb n).target && linked (record_in ra m).modifier (record_in rb n).modifier) (and-true (eqb (record_in ra m).type (record_in rb n).type && same_words (strings_of a (record_in ra m)) (strings_of b (record_in rb n)))))

  -- the reals apart from the rest
  reals_apart : (xa xb : List Float) → same_content (content_in a ra xa m) (content_in b rb xb n) ≡ (same_reals (reals_of xa (record_in ra m)) (reals_of xb (record_in rb n)) && bare)
  unfolding same_content tells
  reals_apart xa xb = (λ i. eqb (record_in ra m).type (record_in rb n).type && same_words (strings_of a (record_in ra m)) (strings_of b (record_in rb n)) && same_reals (reals_of xa (record_in ra m)) (reals_of xb (record_in rb n)) && same_key (key_bare a ra xa (record_in ra m).target i) (key_bare b rb xb (record_in rb n).target i) && same_key (key_bare a ra xa (record_in ra m).modifier i) (key_bare b rb xb (record_in rb n).modifier i))
      ∙ third (eqb (record_in ra m).type (record_in rb n).type) (same_words (strings_of a (record_in ra m)) (strings_of b (record_in rb n))) _ _ _
      ∙ ap (λ (x : Bool). same_reals (reals_of xa (record_in ra m)) (reals_of xb (record_in rb n)) && x) (sym tests)
    where
      third : (x y z v w : Bool) → (x && y && z && v && w) ≡ (z && (x && y && v && w))
      third true true true v w = refl
      third true true false v w = refl
      third true false z v w = sym (and-false z)
      third false y z v w = sym (and-false z)

  module _ (xa xb : List Float) (q : Bool) (e : q ≡ same_reals (reals_of xa (record_in ra m)) (reals_of xb (record_in rb n))) where
    pub reals_differ : q ≡ false → false ≡ same_content (content_in a ra xa m) (content_in b rb xb n)
    reals_differ h = sym (reals_apart xa xb ∙ rw (sym e ∙ h))

    pub reals_agree : q ≡ true → (s : Bool) → s ≡ bare → s ≡ same_content (content_in a ra xa m) (content_in b rb xb n)
    reals_agree h s d = d ∙ sym (reals_apart xa xb ∙ rw (sym e ∙ h))

  pub kinds_differ : (x y : ℕ) → x ≡ (record_in ra m).type → y ≡ (record_in rb n).type → (x ≡ y → ⊥) → false ≡ same_but_links a (record_in ra m) b (record_in rb n)
  kinds_differ x y p q h = rw (ne_eqb (record_in ra m).type (record_in rb n).type (λ e. h (p ∙ e ∙ sym q)))

  pub kinds_agree : (x y : ℕ) (s : Bool) → x ≡ (record_in ra m).type → y ≡ (record_in rb n).type → x ≡ y → s ≡ same_words (strings_of a (record_in ra m)) (strings_of b (record_in rb n)) → s ≡ same_but_links a (record_in ra m) b (record_in rb n)
  kinds_agree x y s p q h e = rw (eq-eqb (record_in ra m).type (record_in rb n).type (sym p ∙ h ∙ q)) e

  -- by what each test came to, and what the ones before it did
  pub all_tests : (x y w : Bool) → x ≡ same_but_links a (record_in ra m) b (record_in rb n) → y ≡ (x && linked (record_in ra m).target (record_in rb n).target) → w ≡ (y && linked (record_in ra m).modifier (record_in rb n).modifier) → w ≡ bare
  all_tests x y w e f g =
      g
      ∙ ap (λ (t : Bool). t && linked (record_in ra m).modifier (record_in rb n).modifier) (f ∙ ap (λ (t : Bool). t && linked (record_in ra m).target (record_in rb n).target) e)
      ∙ sym tests
