-- Laws of blocks by the records of a table: one for each answer and each turn of a loop.
use mathlib.Core.Bool.{Bool, true, false, not}
use mathlib.Core.List.{List, [], ◌∷◌, ◌++◌, append-nil}
use mathlib.Core.Logic.{◌⊎◌, inl, inr}
use mathlib.Core.Option.{Option, none, some}
use mathlib.Core.Path.{◌≡◌, refl, ap, sym, ◌∙◌}
use Prim.Native.Nat.{ℕ, zero, suc, ◌+◌, ◌≤◌, ◌<◌}
use native.Mathlib.Numerals.{add-one}
use native.Mathlib.Omega.{arith}
use borrow.Author.Tests.{eq-eqb, ne_eqb, le-ltb, lt-ltb}
use lib.ListN.{length, set, drop, length-append, drop_of_length-le, replicate}
use lib.Seq.{append_snoc, drop-cons, set_at}
use Rattle.blocks.specs.Code.{Cuts, block_end_in, crowded_in, early_in, end_in, ends_to, tail_in, table_of, verdict_in, verdict_of}
use Rattle.laws.specs.Bytes.{Bytes}
use Rattle.laws.proofs.NatLaws.{le_or_lt}
use Rattle.laws.specs.Runs.{past}
use Rattle.lexer.specs.Class.{is_in_line}
use Rattle.lexer.specs.Word.{behind_words}
use Rattle.rearrangement.specs.Blocks.{Verdict, can, cannot, behind_line, lines_end, or_else, uncrowded}
use Rattle.rearrangement.specs.Layout.{first_word}
use Rattle.scene.specs.Record.{record_in}
use Rattle.scene.specs.declared.Refusal.{Refusal}
use Rattle.std.specs.Prelude.{Result, Ok, Err}

-- ---- the words of a record, and the place behind them

module _ (T : List ℕ) (n : ℕ) where
  pub tail_alias : ((record_in T n).target ≡ 0 → ⊥) → 2 ≡ tail_in T n
  unfolding tail_in
  tail_alias h = rw (ne_eqb (record_in T n).target 0 h)

  pub tail_own : {strings reals : ℕ} → (record_in T n).target ≡ 0 → strings ≡ (record_in T n).strings → reals ≡ (record_in T n).reals → 4 + strings + reals ≡ tail_in T n
  unfolding tail_in
  tail_own h s r = rw (eq-eqb (record_in T n).target 0 h, s, r)

module _ (text : Bytes) (T : List ℕ) where
  pub end_none : (n : ℕ) → n ≡ 0 → 0 ≡ end_in text T n
  unfolding end_in
  end_none zero e = refl
  end_none (suc n) e = absurd (omega arith)

  pub end_some : (n : ℕ) {name words : ℕ} → (n ≡ 0 → ⊥) → name ≡ (record_in T n).name → words ≡ tail_in T n → behind_words text name words ≡ end_in text T n
  unfolding end_in
  end_some zero h e w = absurd (h refl)
  end_some (suc n) h e w = λ i. behind_words text (e i) (w i)

-- ---- the place behind a line

module _ (text : Bytes) (at : ℕ) {end : ℕ} (e : end ≡ past is_in_line text at) where
  pub line_within : end < length text → end + 1 ≡ behind_line text at
  unfolding behind_line
  line_within h = omega arith

-- ---- crowding

module _ (text : Bytes) (T : List ℕ) where
  -- nothing begins before the text
  early_none : early_in text T 0 ≡ none
  early_none = rw (le-ltb (first_word text (end_in text T 0)) 0 (omega arith))

  pub crowded_first : crowded_in text T 1 ≡ none
  unfolding crowded_in
  crowded_first = early_none

  -- the first record that does stays the first
  kept : (p n m : ℕ) → n ≤ m → crowded_in text T n ≡ some p → crowded_in text T m ≡ some p
  unfolding crowded_in
  kept p n zero h e = let z : 0 ≡ n = omega arith in ap (crowded_in text T) z ∙ e
  kept p n (suc m) h e = go (le_or_lt n m) (kept p n m)
    where
      go : (n ≤ m) ⊎ (m < n) → (n ≤ m → crowded_in text T n ≡ some p → crowded_in text T m ≡ some p) → crowded_in text T (suc m) ≡ some p
      go (inl l) ih = ap (λ (o : Option ℕ). or_else o (early_in text T m)) (ih l e)
      go (inr l) ih = let z : suc m ≡ n = omega arith in ap (crowded_in text T) z ∙ e

  none_below : (n m : ℕ) → m ≤ n → crowded_in text T n ≡ none → crowded_in text T m ≡ none
  none_below n m h e = go (crowded_in text T m) refl
    where
      go : (o : Option ℕ) → crowded_in text T m ≡ o → crowded_in text T m ≡ none
      go none f = f
      go (some p) f = let z : ◌≡◌ {A = ℕ} 0 1 = cc (kept p m n h f) in absurd (omega arith)

  pub crowded_never : (n count : ℕ) → crowded_in text T n ≡ none → count ≤ n → can ≡ uncrowded (crowded_in text T count)
  crowded_never n count e h = ap uncrowded (sym (none_below n count h e))

  -- what record n + 1 adds, where the code has found its place and the line's end
  more : (n : ℕ) → crowded_in text T n ≡ none → crowded_in text T (n + 1) ≡ early_in text T n
  unfolding crowded_in
  more n e = ap (crowded_in text T) (add-one n) ∙ ap (λ (o : Option ℕ). or_else o (early_in text T n)) e

  module _ (n : ℕ) {end start bound : ℕ} (one : 1 ≤ n) (e : crowded_in text T n ≡ none) (at : end ≡ end_in text T n) (s : start ≡ first_word text end) (b : bound ≡ behind_line text end) where
    bound_is : bound ≡ block_end_in text T n
    bound_is = go n one (b ∙ ap (behind_line text) at)
      where
        go : (n : ℕ) → 1 ≤ n → bound ≡ behind_line text (end_in text T n) → bound ≡ block_end_in text T n
        go zero h e = absurd (omega arith)
        go (suc n) h e = e

    start_is : start ≡ first_word text (end_in text T n)
    start_is = s ∙ ap (first_word text) at

    pub crowded_here : start < bound → (count : ℕ) → n < count → cannot 34 start ≡ uncrowded (crowded_in text T count)
    crowded_here l count h =
        let t = lt-ltb (first_word text (end_in text T n)) (block_end_in text T n) (omega (arith, start_is, bound_is)) in
        let here : early_in text T n ≡ some start = rw t (ap some (sym start_is)) in
        ap uncrowded (sym (kept start (n + 1) count (omega arith) (more n e ∙ here)))

    pub crowded_on : bound ≤ start → crowded_in text T (n + 1) ≡ none
    crowded_on l =
        let t = le-ltb (first_word text (end_in text T n)) (block_end_in text T n) (omega (arith, start_is, bound_is)) in
        more n e ∙ rw t

-- ---- the table of ends

module _ (text : Bytes) (T ends : List ℕ) where
  -- the first n ends put
  unfoldable pub puts : ℕ → List ℕ
  puts n = ends_to text T n ++ drop n ends

  ends_length : (n : ℕ) → length (ends_to text T n) ≡ n
  unfolding ends_to
  ends_length zero = refl
  ends_length (suc n) = omega (arith, length-append (ends_to text T n) (block_end_in text T (suc n) ∷ []), ends_length n)

  pub puts_none : ends ≡ puts 0
  unfolding puts ends_to
  puts_none = refl

  pub puts_more : (n : ℕ) {end bound : ℕ} → n < length ends → end ≡ end_in text T (n + 1) → bound ≡ behind_line text end → set (puts n) n bound ≡ puts (n + 1)
  unfolding puts ends_to
  puts_more n {end} {bound} h e b =
      let put : bound ≡ block_end_in text T (suc n) = b ∙ ap (behind_line text) (e ∙ ap (end_in text T) (add-one n)) in
      ap (λ (y : List ℕ). set (ends_to text T n ++ y) n bound) (drop-cons ends n 0 h)
      ∙ set_at (ends_to text T n) _ (drop (suc n) ends) bound n (ends_length n)
      ∙ sym (append_snoc (ends_to text T n) bound (drop (suc n) ends))
      ∙ ap (λ (x : ℕ). (ends_to text T n ++ x ∷ []) ++ drop (suc n) ends) put
      ∙ ap (λ (m : ℕ). ends_to text T m ++ drop m ends) (sym (add-one n))

  pub puts_all : (n : ℕ) → n ≡ length ends → puts n ≡ ends_to text T (length ends)
  unfolding puts
  puts_all n e =
      ap (λ (m : ℕ). ends_to text T m ++ drop m ends) e
      ∙ ap (λ (y : List ℕ). ends_to text T (length ends) ++ y) (drop_of_length-le ends {i = length ends} (omega arith))
      ∙ append-nil (ends_to text T (length ends))

-- ---- the whole answer

module _ (text : Bytes) (T : List ℕ) (n : ℕ) where
  module _ {ended : Bool} (e : ended ≡ lines_end text) where
    pub unended_is : ended ≡ false → cannot 33 (length text) ≡ verdict_in text T n
    unfolding verdict_in
    unended_is q = let f : lines_end text ≡ false = sym e ∙ q in rw f

    pub ended_is : ended ≡ true → (v : Verdict) → v ≡ uncrowded (crowded_in text T n) → v ≡ verdict_in text T n
    unfolding verdict_in
    ended_is q v h = let f : lines_end text ≡ true = sym e ∙ q in rw f h

  abbrev table : Verdict → List ℕ
  table v = table_of v (ends_to text T n) n

  module _ (r : Result (Unit {0}) Refusal) (says : verdict_of r ≡ verdict_in text T n) {ends' : List ℕ} where
    pub cut_refused : (f : Refusal) → r ≡ Err f → ends' ≡ replicate n 0 → Cuts text T n (Err f) ends'
    cut_refused f e z = let s = ap verdict_of (sym e) ∙ says in record { says = s; ends = z ∙ ap table s }

    pub cut_made : (u : Unit {0}) → r ≡ Ok u → ends' ≡ ends_to text T n → Cuts text T n (Ok u) ends'
    cut_made u e z = let s = ap verdict_of (sym e) ∙ says in record { says = s; ends = z ∙ ap table s }
