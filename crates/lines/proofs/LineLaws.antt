-- Words one behind the other, each after a space, and the line of no words.
use mathlib.Core.List.{List, [], ◌∷◌, ◌++◌, append_assoc, append-nil}
use mathlib.Core.Path.{◌≡◌, refl, sym, ap, ◌∙◌}
use Prim.Native.Nat.{ℕ, zero, suc, ◌≤◌}
use native.Mathlib.Omega.{arith}
use lib.ListN.{length}
use Rattle.buffer.specs.Decimal.{decimal}
use Rattle.laws.specs.Bytes.{Bytes, byte, bytes}
use Rattle.lexer.specs.Word.{word_bytes, word_end}
use Rattle.scene.specs.Told.{words_from}
use Rattle.tidying.specs.Tidy.{spaced, counted}

pub no_words : (text : Bytes) (at left : ℕ) → left ≤ 0 → spaced (words_from text at left) ≡ []
unfolding spaced words_from
no_words text at zero h = refl
no_words text at (suc n) h = absurd (omega arith)

pub next_word : (text : Bytes) (at left rest : ℕ) → left ≡ suc rest → (word : Bytes) → word ≡ word_bytes text at → (next : ℕ) → next ≡ word_end text at → spaced (words_from text at left) ≡ (byte " " ∷ word) ++ spaced (words_from text next rest)
unfolding spaced words_from
next_word text at left rest h word d next e = rw h (λ i. byte " " ∷ (sym d i ++ spaced (words_from text (sym e i) rest)))

pub words_length : (text : Bytes) (at n : ℕ) → length (words_from text at n) ≡ n
unfolding words_from
words_length text at zero = refl
words_length text at (suc n) = ap suc (words_length text (word_end text at) n)

-- a first word and two after it
pub spaced_two : (u v w : Bytes) → u ++ (byte " " ∷ v) ++ (byte " " ∷ w) ≡ u ++ spaced (v ∷ w ∷ [])
unfolding spaced
spaced_two u v w = append_assoc u (byte " " ∷ v) (byte " " ∷ w) ∙ ap (λ (x : Bytes). u ++ (byte " " ∷ v ++ (byte " " ∷ x))) (sym (append-nil w))

-- one word more at the end
pub spaced_more : (u : Bytes) (ws : List Bytes) (w : Bytes) → u ++ spaced ws ++ (byte " " ∷ w) ≡ u ++ spaced (ws ++ w ∷ [])
unfolding spaced
spaced_more u ws w = append_assoc u (spaced ws) (byte " " ∷ w) ∙ ap (λ (x : Bytes). u ++ x) (go ws)
  where
    go : (ws : List Bytes) → spaced ws ++ (byte " " ∷ w) ≡ spaced (ws ++ w ∷ [])
    go [] = ap (λ (x : Bytes). byte " " ∷ x) (sym (append-nil w))
    go (v ∷ ws) = ap (λ (x : Bytes). byte " " ∷ x) (append_assoc v (spaced ws) (byte " " ∷ w) ∙ ap (λ (x : Bytes). v ++ x) (go ws))

pub no_integers : bytes "0\n" ≡ counted []
unfolding spaced decimal
no_integers = refl
