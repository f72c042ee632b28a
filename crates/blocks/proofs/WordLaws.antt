-- Laws of the first word from a place on, and of a text's last line: one for each answer and each turn of a loop.
use mathlib.Core.Bool.{Bool, true, false, not, cond}
use mathlib.Core.List.{[], ◌∷◌}
use mathlib.Core.Logic.{◌⊎◌, inl, inr}
use mathlib.Core.Path.{◌≡◌, refl, ap, sym, ◌∙◌}
use Prim.Native.Nat.{ℕ, suc, ◌+◌, ◌-◌, ◌≤◌, ◌<◌}
use native.Mathlib.Omega.{arith}
use borrow.Author.Tests.{eqb-true, ne_eqb}
use lib.Dec.{eqb}
use lib.ListN.{length, drop, get_or, drop_of_length-le}
use Rattle.std.specs.List.{slice_get}
use Rattle.std.specs.Prelude.{Some, None}
use Rattle.std.proofs.lemmas.Option.{get_or_from_slice_get, slice_get-get_or}
use lib.Seq.{drop-cons, drop-drop}
use Rattle.laws.proofs.NatLaws.{le_or_lt}
use Rattle.laws.proofs.RunLaws.{past_end, past_fails, past_least, past_most, past_run, past_step}
use Rattle.laws.specs.Bytes.{Bytes, byte}
use Rattle.laws.specs.Runs.{run, past}
use Rattle.lexer.proofs.ClassLaws.{in_line}
use Rattle.lexer.specs.Class.{is_blank, is_in_line}
use Rattle.rearrangement.specs.Blocks.{lines_end}
use Rattle.rearrangement.specs.Layout.{first_word, lead}

-- ---- blanks and comments

-- a run of blanks is passed over
lead_blanks : (t : Bytes) → lead false t ≡ run is_blank t + lead false (drop (run is_blank t) t)
unfolding lead run
lead_blanks [] = refl
lead_blanks (b ∷ t) = go (is_blank b) refl (lead_blanks t)
  where
    go : (q : Bool) → is_blank b ≡ q → lead false t ≡ run is_blank t + lead false (drop (run is_blank t) t) → cond q (suc (lead false t)) (cond (eqb b 35) (suc (lead true t)) 0) ≡ cond q (suc (run is_blank t)) 0 + lead false (drop (cond q (suc (run is_blank t)) 0) (b ∷ t))
    go true e h = omega arith
    go false e h = rw e (omega arith)

-- a comment goes to its line's end, which is blank
lead_comment : (t : Bytes) → lead true t ≡ run is_in_line t + lead false (drop (run is_in_line t) t)
unfolding lead run is_in_line is_blank
lead_comment [] = refl
lead_comment (b ∷ t) = go (eqb b 10) refl (lead_comment t)
  where
    go : (q : Bool) → eqb b 10 ≡ q → lead true t ≡ run is_in_line t + lead false (drop (run is_in_line t) t) → cond q (suc (lead false t)) (suc (lead true t)) ≡ cond (not q) (suc (run is_in_line t)) 0 + lead false (drop (cond (not q) (suc (run is_in_line t)) 0) (b ∷ t))
    go true e h = rw (eqb-true b 10 e) (omega arith)
    go false e h = omega arith

module _ (text : Bytes) where
  -- from the text's end on there is none
  first_none : (at : ℕ) → length text ≤ at → first_word text at ≡ length text
  unfolding first_word lead
  first_none at h = rw (drop_of_length-le text h) (omega arith)

  -- a run is passed over if what stands at its front is
  first_run : (test : ℕ → Bool) (at : ℕ) → at ≤ length text → (let t = drop at text in lead false t ≡ run test t + lead false (drop (run test t) t)) → first_word text (past test text at) ≡ first_word text at
  unfolding first_word
  first_run test at h e =
      let p : past test text at ≡ at + run test (drop at text) = past_run test text at h in
      let d : drop (past test text at) text ≡ drop (run test (drop at text)) (drop at text) = ap (λ (n : ℕ). drop n text) p ∙ sym (drop-drop (run test (drop at text)) at text) in
      omega (arith, past_most test text at, ap (lead false) d)

  pub first_blanks : (at : ℕ) → first_word text (past is_blank text at) ≡ first_word text at
  first_blanks at = go (le_or_lt at (length text))
    where
      go : (at ≤ length text) ⊎ (length text < at) → first_word text (past is_blank text at) ≡ first_word text at
      go (inl l) = first_run is_blank at l (lead_blanks (drop at text))
      go (inr l) = first_none _ (omega (arith, past_end is_blank text at (omega arith))) ∙ sym (first_none at (omega arith))

  -- the byte behind blanks
  pub behind_blanks : (at : ℕ) {place : ℕ} → place ≡ past is_blank text at → place < length text → is_blank (get_or text place 0) ≡ false
  behind_blanks at e h = ap (λ (n : ℕ). is_blank (get_or text n 0)) e ∙ past_fails is_blank text at 0 (omega arith)

  module _ (at : ℕ) (h : at < length text) where
    pub first_here : is_blank (get_or text at 0) ≡ false → (get_or text at 0 ≡ byte "#" → ⊥) → at ≡ first_word text at
    unfolding first_word lead
    first_here e z = rw (drop-cons text at 0 h, e, ne_eqb (get_or text at 0) 35 z) (omega arith)

    module _ (e : get_or text at 0 ≡ byte "#") where
      opens : lead false (drop at text) ≡ lead true (drop at text)
      unfolding lead is_blank
      opens = rw (drop-cons text at 0 h, e)

      pub first_comment : first_word text (past is_in_line text at) ≡ first_word text at
      first_comment = first_run is_in_line at (omega arith) (opens ∙ lead_comment (drop at text))

      pub comment_long : at < past is_in_line text at
      comment_long = omega (arith, past_step is_in_line text at 0 h (in_line (get_or text at 0) (λ z. absurd (omega arith))), past_least is_in_line text (at + 1))

  pub first_end : (at : ℕ) → length text ≤ at → length text ≡ first_word text at
  first_end at h = sym (first_none at h)

-- ---- the last line

pub last_none : (text : Bytes) → None ≡ slice_get text (length text - 1) → true ≡ lines_end text
unfolding lines_end
last_none [] e = refl
last_none (b ∷ t) e = let h = slice_get-get_or (b ∷ t) (length (b ∷ t) - 1) 0 (omega arith) in cc

last_byte : (b : ℕ) (t : Bytes) → eqb (get_or (b ∷ t) (length t) 0) 10 ≡ lines_end (b ∷ t)
unfolding lines_end
last_byte b [] = refl
last_byte b (c ∷ t) = last_byte c t

pub last_some : (text : Bytes) (b : ℕ) → Some b ≡ slice_get text (length text - 1) → eqb b 10 ≡ lines_end text
last_some [] b e = cc
last_some (x ∷ t) b e =
    let n : length (x ∷ t) - 1 ≡ length t = omega arith in
    ap (λ (v : ℕ). eqb v 10) (sym (get_or_from_slice_get (x ∷ t) (length t) b 0 (sym (e ∙ ap (slice_get (x ∷ t)) n)))) ∙ last_byte x t
