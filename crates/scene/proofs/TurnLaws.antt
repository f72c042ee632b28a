-- Reading a word at a time: over blanks, over a word and the blank behind it, over a comment.
use mathlib.Core.Bool.{true, false}
use mathlib.Core.List.{List, [], ◌∷◌, ◌++◌, append_assoc, append-nil}
use mathlib.Core.Path.{◌≡◌, refl, ap, sym, ◌∙◌}
use Prim.Native.Nat.{ℕ, suc, ◌+◌}
use native.Mathlib.Nat.{add-zero}
use native.Mathlib.Omega.{arith}
use borrow.Author.Tests.{not-true}
use lib.Dec.{eqb}
use lib.ListN.{length}
use Rattle.laws.proofs.BoolLaws.{and_left, and_right}
use Rattle.laws.specs.Bytes.{Bytes}
use Rattle.laws.specs.Runs.{all}
use Rattle.lexer.specs.Class.{is_blank, is_other, is_in_line}
use Rattle.scene.specs.Phase.{Phase, word}
use Rattle.scene.specs.Reading.{gap, comment, within, Move, keep, first, ended, begins, move, test, Places, note, Entry, Going, at_end, going_at, going, statements, settle, advance, run}
use Rattle.scene.specs.declared.Settings.{Settings}

other_byte : (b : ℕ) → is_other b ≡ true → is_blank b ≡ false
unfolding is_other
other_byte b e = not-true (is_blank b) e

module _ (r : Settings) (ph : Phase) (es : List Entry) where
  step : (g : Going) (b : ℕ) (t : Bytes) (mv : Move) → move g.scan g.phase b ≡ mv → run r (going g) (b ∷ t) ≡ run r (advance r g mv) t
  unfolding run
  step g b t mv e = ap (λ (x : Move). run r (advance r g x) t) e

  pub run_blanks : (n : ℕ) (k : Places) (s t : Bytes) → all is_blank s ≡ true → run r (going_at n gap ph k es) (s ++ t) ≡ run r (going_at (n + length s) gap ph k es) t
  unfolding all
  run_blanks n k [] t h = ap (λ x. run r (going_at x gap ph k es) t) (sym (add-zero n))
  run_blanks n k (b ∷ s) t h =
      let e : suc n + length s ≡ n + suc (length s) = omega arith in
      step _ b (s ++ t) (keep gap) (rw (and_left (is_blank b) (all is_blank s) h)) ∙ run_blanks (suc n) k s t (and_right (is_blank b) (all is_blank s) h) ∙ ap (λ x. run r (going_at x gap ph k es) t) e

  run_within : (n : ℕ) (k : Places) (v w t : Bytes) → all is_other w ≡ true → run r (going_at n (within v) ph k es) (w ++ t) ≡ run r (going_at (n + length w) (within (v ++ w)) ph k es) t
  unfolding all
  run_within n k v [] t h = λ i. run r (going_at (sym (add-zero n) i) (within (sym (append-nil v) i)) ph k es) t
  run_within n k v (b ∷ w) t h =
      let e : suc n + length w ≡ n + suc (length w) = omega arith in
      step _ b (w ++ t) (keep (within (v ++ b ∷ []))) (rw (other_byte b (and_left (is_other b) (all is_other w) h))) ∙ run_within (suc n) k (v ++ b ∷ []) w t (and_right (is_other b) (all is_other w) h) ∙ (λ i. run r (going_at (e i) (within (append_assoc v (b ∷ []) w i)) ph k es) t)

  pub run_word : (n : ℕ) (k : Places) (c : ℕ) (w : Bytes) (b : ℕ) (t : Bytes) → all is_other (c ∷ w) ≡ true → is_blank b ≡ true → begins ph c ≡ first c
      → run r (going_at n gap ph k es) (c ∷ w ++ b ∷ t) ≡ run r (settle (at_end n (c ∷ w) ph k es) (word r ph (c ∷ w)) (test r (statements es) ph (c ∷ w))) t
  unfolding all
  run_word n k c w b t h e f =
      let q : suc n + length w ≡ n + suc (length w) = omega arith in
      step _ c (w ++ b ∷ t) (first c) (rw (other_byte c (and_left (is_other c) (all is_other w) h)) f) ∙ run_within (suc n) (note ph n k) (c ∷ []) w (b ∷ t) (and_right (is_other c) (all is_other w) h) ∙ ap (λ x. run r (going_at x (within (c ∷ w)) ph (note ph n k) es) (b ∷ t)) q ∙ step _ b t (ended (c ∷ w)) (rw e)

  pub run_comment : (n : ℕ) (k : Places) (s t : Bytes) → all is_in_line s ≡ true → run r (going_at n comment ph k es) (s ++ 10 ∷ t) ≡ run r (going_at (n + suc (length s)) gap ph k es) t
  unfolding all is_in_line
  run_comment n k [] t h = step _ 10 t (keep gap) refl ∙ (let e : suc n ≡ n + 1 = omega arith in ap (λ x. run r (going_at x gap ph k es) t) e)
  run_comment n k (b ∷ s) t h =
      let e : suc n + suc (length s) ≡ n + suc (suc (length s)) = omega arith in
      step _ b (s ++ 10 ∷ t) (keep comment) (rw (not-true (eqb b 10) (and_left (is_in_line b) (all is_in_line s) h))) ∙ run_comment (suc n) k s t (and_right (is_in_line b) (all is_in_line s) h) ∙ ap (λ x. run r (going_at x gap ph k es) t) e
